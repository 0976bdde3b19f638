-- The next line of a part.
use mathlib.Core.Path.{◌≡◌, sym, ap, subst, ◌∙◌}
use mathlib.Core.Option.{some}
use Rattle.std.specs.Prelude.{Option, Some}
use mathlib.Core.List.{List}
use Prim.Native.Nat.{ℕ, ◌≤◌}
use native.Mathlib.Omega.{arith}
use lib.ListN.{length}
use Rattle.model.specs.Lines.{deliver}
use Rattle.parse.specs.Meaning.{parsed}
use Rattle.parse_deliver.specs.declared.Quick.{Quick}
use Rattle.parse_deliver.specs.Deliver.{DeliverAt, DeliverRead}
use Rattle.progress.specs.declared.Progress.{Progress}
use Rattle.lines.specs.declared.Read.{Read}
use Rattle.lines.specs.Sessions.{held}
use Rattle.lines.specs.Lines.{Plain, FeedAt}
use Rattle.lines.specs.Feeding.{WholeLine, whole}
use Rattle.lines.proofs.Holding.{ended_whole, after_whole}

deliver_feed : {input : List ℕ} {from n to : ℕ} → DeliverAt input from n to → FeedAt input from to
deliver_feed k = record { bytes = record { onward = k.onward; within = omega (arith, k.within); plain = k.plain }; stops = λ h. k.feed }

-- a line `deliver I` that was read where it lies is the next line
pub deliver_whole : (line input : List ℕ) (p : Progress) (q : Quick) (x : Read) (r : Option Read) → p.held ≡ 0 → DeliverRead input p.taken q → r ≡ Some x → x.next ≡ q.next → x.line ≡ parsed (some (deliver q.number))
    → WholeLine line input p line r
deliver_whole line input p q x r e k b g y =
    whole x k.to b (deliver_feed k.at) k.at.within (g ∙ k.next)
    (y ∙ ap parsed (sym k.at.reads) ∙ rw (ended_whole (held line p.held) _ e))
    (rw (after_whole (held line p.held) _ e, e))

-- no line feed stands in the rest
pub feed_none : (input : List ℕ) (from feed : ℕ) → FeedAt input from feed → length input ≤ feed → Plain input from (length input)
feed_none input from feed k h =
    let e : feed ≡ length input = omega (arith, k.bytes.within) in
    subst (λ (to : ℕ). Plain input from to) e k.bytes
