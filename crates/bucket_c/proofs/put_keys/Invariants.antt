-- `put_keys` meets its contract: key by key.
use Rattle.bucket_c.proofs.Exporting.{KeysPutting}
use Rattle.bucket_c.proofs.put_keys.Given as goal

abbrev pub invariant-loop-key : goal.invariant-loop-key
invariant-loop-key l = KeysPutting l.initial.out l.keys l.out l.at l.key-index
