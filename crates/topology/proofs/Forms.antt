-- What a shape has that a file's value states.
use Rattle.std.proofs.Common.{◌≡◌, ℕ, ◌≤◌, Bool, true, false, cond, List, [], ◌∷◌, length, All, Option, Some, None, unwrap_or, codes, true≢false, refl, sym, ◌∙◌, ap, subst, arith}
use Rattle.std.proofs.lemmas.Option.{none-some}
use Rattle.std.proofs.lemmas.List.Elements.{All-nil, All-cons}
use Rattle.serde_json.specs.Data.{Data, Items, no_items, item}
use Rattle.mw_types.specs.declared.kind.Kind.{Kind}
use Rattle.mw_types.specs.declared.kind.Kind.TheVariants.{Count, Spike, Pass}
use Rattle.topology.specs.Shapes.{Shape, InjectorShape, ComputationShape, Reading}
use Rattle.topology.specs.Grammar.{and_then, has_members, each_of, array_in, list_in, injector_in, some_of, reading_in, kind_in, reads_in, cuts_in, weakness_in, members_of, names_in, lists_in, computation_with, computation_in, injectors_in, shape_in, computation_of_kind}
use Rattle.topology.specs.Rules.{IsPassWhereWeak}
use Rattle.topology.specs.Answers.{IsFull}
use Rattle.list_lemmas.proofs.Lists.{some_same}

-- what two steps give, the first gave something for
and_then-some : {A B : Type 0} (o : Option A) (f : A → Option B) (y : B) → and_then o f ≡ Some y
    → (x : A) × (o ≡ Some x) × (f x ≡ Some y)
and_then-some None f y e = absurd (none-some y e)
and_then-some (Some x) f y e = (x, refl, e)

-- what stands behind a test is there where that is
if-some : {A : Type 0} (test : Bool) (o : Option A) (y : A) → cond test o None ≡ Some y → o ≡ Some y
if-some true o y e = e
if-some false o y e = absurd (none-some y e)

-- a property of what is there
at_some : {A : Type 0} (P : A → Type 0) (x y : A) → Some x ≡ Some y → P x → P y
at_some P x y e p = subst P (ap (λ o. unwrap_or o x) e) p

-- a list that is not empty has an element
some_of-some : {X : Type 0} (xs ys : List X) → some_of xs ≡ Some ys → 1 ≤ length ys
some_of-some [] ys e = absurd (none-some ys e)
some_of-some (x ∷ xs) ys e = at_some (λ l. 1 ≤ length l) (x ∷ xs) ys e (omega arith)

-- what holds of whatever one item states holds of all
each_of-all : {X : Type 0} (form : Data → Option X) (P : X → Type 0)
    → ((value : Data) (x : X) → form value ≡ Some x → P x)
    → (items : Items) (xs : List X) → each_of form items ≡ Some xs → All P xs
each_of-all form P holds no_items xs e = at_some (All P) [] xs e (All-nil P)
each_of-all form P holds (item value rest) xs e =
    let first = and_then-some (form value) _ xs e in
    let others = and_then-some (each_of form rest) _ xs first.2 in
    at_some (All P) (first.0 ∷ others.0) xs others.2
    (All-cons P first.0 others.0 (holds value first.0 first.1) (each_of-all form P holds rest others.0 others.1))

-- a computation is as weak as its value says, and has the readings that this states
computation_in-as_stated : (value : Data) (c : ComputationShape) → computation_in value ≡ Some c
    → (weakness_in c.kind value ≡ Some c.weak) × (reads_in value ≡ Some c.reads)
computation_in-as_stated value c e =
    let kind = and_then-some (kind_in value) (computation_of_kind value) c e in
    let members = if-some (has_members (members_of kind.0 value) value) _ c kind.2 in
    let weak = and_then-some (weakness_in kind.0 value) (computation_with value kind.0) c members in
    let names = and_then-some (names_in value) _ c weak.2 in
    let lists = and_then-some (lists_in value) _ c names.2 in
    let reads = and_then-some (reads_in value) _ lists.0 lists.1 in
    let cuts = and_then-some (cuts_in value) _ lists.0 reads.2 in
    let first : reads_in value ≡ Some lists.0.0 =
    at_some (λ (p : List Reading × List (List ℕ)). reads_in value ≡ Some p.0) _ lists.0 cuts.2 reads.1 in
    at_some (λ (d : ComputationShape). (weakness_in d.kind value ≡ Some d.weak) × (reads_in value ≡ Some d.reads)) _ c
    lists.2 (weak.1, first)

-- a computation reads something
computation_in-reads : (value : Data) (c : ComputationShape) → computation_in value ≡ Some c → 1 ≤ length c.reads
computation_in-reads value c e =
    let reads = list_in reading_in (codes "reads") value in
    let listed = and_then-some reads some_of c.reads (computation_in-as_stated value c e).1 in
    some_of-some listed.0 c.reads listed.2

-- nothing but a pass says that it is weak
only-passes : (kind : Kind) (value : Data) → weakness_in kind value ≡ Some true → kind ≡ Pass
only-passes Pass value e = refl
only-passes (Count size) value e = absurd (true≢false (sym (some_same false true e)))
only-passes (Spike last times) value e = absurd (true≢false (sym (some_same false true e)))

-- so what is weak is a pass
computation_in-weak : (value : Data) (c : ComputationShape) → computation_in value ≡ Some c → IsPassWhereWeak c
computation_in-weak value c e weak = only-passes c.kind value ((computation_in-as_stated value c e).0 ∙ ap Some weak)

-- the parts of a shape are those that were found
parts_stated : (i : Option (List InjectorShape)) (cs : Option (List ComputationShape)) (shape : Shape)
    → and_then i (λ injectors. and_then cs (λ computations.
    Some (record { injectors = injectors; computations = computations }))) ≡ Some shape
    → (i ≡ Some shape.injectors) × (cs ≡ Some shape.computations)
parts_stated None cs shape e = absurd (none-some shape e)
parts_stated (Some i) None shape e = absurd (none-some shape e)
parts_stated (Some i) (Some cs) shape e =
    at_some (λ (s : Shape). (Some i ≡ Some s.injectors) × (Some cs ≡ Some s.computations)) _ shape e (refl, refl)

-- a file has an injector, and its computations read something
pub full_shape : (value : Data) (shape : Shape) → shape_in value ≡ Some shape → IsFull shape
full_shape value shape e =
    let injectors = list_in injector_in (codes "injectors") value in
    let computations = list_in computation_in (codes "computations") value in
    let stated = parts_stated (injectors_in value) computations shape (if-some (has_members 2 value) _ shape e) in
    let first = and_then-some injectors some_of shape.injectors stated.0 in
    let listed =
    and_then-some (array_in (codes "computations") value) (each_of computation_in) shape.computations stated.1 in
    record {
      some_injector = some_of-some first.0 shape.injectors first.2;
      reading = each_of-all computation_in (λ (c : ComputationShape). 1 ≤ length c.reads) computation_in-reads listed.0
          shape.computations listed.2;
      passes = each_of-all computation_in IsPassWhereWeak computation_in-weak listed.0 shape.computations listed.2;
    }
