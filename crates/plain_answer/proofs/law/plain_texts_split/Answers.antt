use Rattle.plain_answer.proofs.TextShards.{shard-lines, shard-fired, shard-handled, shard-injected, shard-late, merged-plain}
use Rattle.plain_answer.proofs.law.plain_texts_split.Goals as goal

pub returns : goal.returns
returns c = record {
  lines = λ case split shards are. shard-lines case split shards are;
  fired = λ case split shards are. shard-fired case split shards are;
  handled = λ case split shards are. shard-handled case split shards are;
  injected = λ case split shards are. shard-injected case split shards are;
  late = λ case split shards are. shard-late case split shards are;
  text = λ case split shards text are merged. merged-plain case split shards are text merged;
}
