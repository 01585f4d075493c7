-- What the shelf and the sink in memory are. Own.
use Rattle.std.specs.Prelude.{ℕ, List, find, option_map}
use Rattle.std.specs.Str.{bytes_eq}
use Rattle.mw_ports.specs.declared.mem_shelf.NamedFile.{NamedFile}
use Rattle.mw_ports.specs.Shelves.{Files}

-- the files of a list by their names; of two of one name it is the first
abbrev pub file_of : List NamedFile → Files
file_of files name = option_map (λ (file : NamedFile). file.bytes) (find (λ (file : NamedFile). bytes_eq file.name name) files)

-- a shelf in memory: its files, the calls that fail, how many calls there were, and its two counts
pub record ShelfView : Type 0 where
  pub files : List NamedFile
  pub failing : List ℕ
  pub calls : ℕ
  pub faults : ℕ
  pub lacks : ℕ

-- a sink in memory: its text, how much a call takes at most, the calls that fail and those that take nothing,
-- how many calls there were, and its count
pub record SinkView : Type 0 where
  pub text : List ℕ
  pub most : ℕ
  pub failing : List ℕ
  pub empty : List ℕ
  pub calls : ℕ
  pub faults : ℕ
