-- `hash::bucket_of` meets its contract: with no buckets both say 0, otherwise both take the remainder.
use mathlib.Core.Path.{◌≡◌, refl}
use mathlib.Core.List.{List}
use Prim.Native.Nat.{ℕ, zero, suc, ◌%◌, ◌<◌}
use native.Mathlib.Nat.{not-suc-le-zero}
use borrow.Author.Rules.{rules}
use Rattle.hash.specs.Fnv.{fnv, bucket_of}
use Rattle.hash.proofs.bucket_of.Goals as goal

remainder : (n : ℕ) (key : List ℕ) → 0 < n → fnv key % n ≡ bucket_of n key
unfolding bucket_of
remainder zero key h = absurd (not-suc-le-zero h)
remainder (suc n) key h = refl

pub returns-then-buckets-eq0 : goal.returns-then-buckets-eq0
unfolding bucket_of
returns-then-buckets-eq0 c = rw c.if-buckets-eq0.true

pub returns-else-buckets-eq0 : goal.returns-else-buckets-eq0
returns-else-buckets-eq0 c = rw c.fnv1a.ensures (remainder c.args.buckets c.args.key.now (search rules))
