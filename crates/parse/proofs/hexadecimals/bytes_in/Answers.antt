-- `hexadecimals::bytes_in` meets its contract: byte by byte.
use mathlib.Core.Path.{◌≡◌, sym, ◌∙◌}
use Prim.Native.Nat.{ℕ}
use native.Mathlib.Decide.{dec_lt}
use native.Mathlib.Omega.{arith}
use Rattle.std.proofs.Common.{◌<◌, ◌≢◌, length, get_or, get_or-set_other, get_or-set_same, length-set, below_more}
use Rattle.std.proofs.lemmas.List.FromFn.{fill_by_all}
use Rattle.std.proofs.lemmas.List.{get_or_past}
use Rattle.parse.specs.Digits.{pair_bytes}
use Rattle.parse.proofs.Pairs.{length_pairs}
use Rattle.parse.proofs.hexadecimals.bytes_in.Goals as goal

pub loop-i-preserved : goal.loop-i-preserved
loop-i-preserved g c = (
  length-set c.loop-i.bytes c.loop-i.i c.pair_at.result ∙ c.loop-i.invariant.0,
  below_more _ _
      (λ k h. let ne : k ≢ c.loop-i.i = omega arith in rw get_or-set_other (c.loop-i.invariant.1 k h))
      (let lt : c.loop-i.i < length c.loop-i.bytes = omega (arith, c.loop-i.invariant.0) in rw get_or-set_same c.pair_at.ensures),
  λ k h. let ne : k ≢ c.loop-i.i = omega arith in rw get_or-set_other (c.loop-i.invariant.2 k (omega arith)),
)

pub returns : goal.returns
returns g c = fill_by_all (λ i. get_or (pair_bytes c.args.word.now) i 0) _ _ 0 c.loop-i.invariant.0 (λ k h. go k h (dec_lt k c.loop-i.i))
  where
    go : (k : ℕ) → k < g.row.ROOM → Dec (k < c.loop-i.i) → get_or c.loop-i.bytes k 0 ≡ get_or (pair_bytes c.args.word.now) k 0
    go k h (yes below) = c.loop-i.invariant.1 k below
    go k h (no past) = c.loop-i.invariant.2 k (omega arith) ∙ sym (get_or_past (pair_bytes c.args.word.now) k 0 (omega (arith, length_pairs c.args.word.now, c.loop-i-test.false)))
