-- One call precedes another by where they stand. No call precedes itself, or one that ended before it began.
use mathlib.Core.Path.{◌≡◌, refl, sym, ◌∙◌, ap}
use mathlib.Core.Logic.{inl, inr}
use mathlib.Core.Option.{some}
use Prim.Native.Nat.{ℕ, ◌≤◌, ◌<◌}
use native.Mathlib.Omega.{arith}
use Rattle.history.specs.Members.{◌∈◌}
use Rattle.history.specs.Version.{Version, ◌≼◌}
use Rattle.history.specs.History.{Contents, Quorums, Write, History, Call, End, unknown, notdone, never, answered, Facts}
use Rattle.history.specs.Ordering.{EndedIn, by_unknown, by_notdone, by_answer}
use Rattle.history.proofs.VersionLaws.{le_refl, lt_of_le_lt, lt_not_le}
use Rattle.history.proofs.Descent.{Ancestor, up, ancestor_le, age, parent_before}
use Rattle.history.proofs.Freshness.{fresh}
use Rattle.history.proofs.Places.{Place, own, check, checked_at, checked_how, checked_call, checked_unwritten, one_place}

module _ {Q : Quorums} {M : Contents} (h : History M) (f : Facts Q h) where
  -- i stands at an ancestor of what j's version was made from; or at the same version, where the call whose own write it is comes
  -- first, then those answered by a check there, by their numbers
  pub data Precedes (i j : ℕ) : Type 0 where
    rises : {v : Version} → Place h f i v → (z : Write M) → z ∈ h.writes → Ancestor h v z.parent → Place h f j z.at → Precedes i j
    own_first : (w : Write M) → w ∈ h.writes → w.call ≡ some i → checked_at h f j ≡ some w.at → Precedes i j
    by_number : {v : Version} → checked_at h f i ≡ some v → checked_at h f j ≡ some v → i < j → Precedes i j

  ancestor_of_parent : {v : Version} (z : Write M) → z ∈ h.writes → Ancestor h v z.parent → z.at ≼ v → ⊥
  ancestor_of_parent z m a = lt_not_le (lt_of_le_lt (ancestor_le h f a) (parent_before h f (f.succeeds z m)))

  pub precedes_other : (i : ℕ) → Precedes i i → ⊥
  precedes_other i (rises p z m a q) = ancestor_of_parent z m a (rw (one_place h f q p) (le_refl _))
  precedes_other i (own_first w m e d) = checked_unwritten h f w m e d
  precedes_other i (by_number e d l) = omega arith

  -- a linearization point: a line from the beginning to the end of a call, by which what it stands at was written
  pub record Point (c : Call M) (v : Version) : Type 0 where
    pub line : ℕ
    pub begun : c.begun ≤ line
    pub ended : (last : ℕ) → EndedIn c.end last → line ≤ last
    pub written : (w : Write M) → w ∈ h.writes → w.at ≡ v → w.line ≤ line

  own_begun : (c : Call M) → c ∈ h.calls → (w : Write M) → w ∈ h.writes → w.call ≡ some c.number → c.begun ≤ w.line
  own_begun c m w n e =
      let (d, k, s, b) = f.owner w n c.number e in
      omega (arith, ap (λ y. y.begun) (f.numbered d c k m s))

  own_ended : (c : Call M) → c ∈ h.calls → (w : Write M) → w ∈ h.writes → w.call ≡ some c.number → (line : ℕ) (e : End M) → c.end ≡ e → EndedIn e line → w.line ≤ line
  own_ended c m w n s line (unknown _) e by_unknown = f.in_time c m line e w n s
  own_ended c m w n s line (notdone _) e by_notdone = absurd (f.undone c m line e w n s)
  own_ended c m w n s line never e d = elim d [ ]
  own_ended c m w n s line (answered _ r) e by_answer =
      elim (f.justified c m line r e) [
        | inl b ↦ omega (arith, b.before, ap (λ y. y.line) (f.once w b.write n b.made c.number s b.own))
        | inr k ↦ absurd (k.unwritten w n s)
      ]

  answer_line : {k line : ℕ} {r : M.Result} → EndedIn {M = M} (answered k r) line → line ≡ k
  answer_line by_answer = refl

  pub point_of : {v : Version} (c : Call M) → c ∈ h.calls → Place h f c.number v → Point c v
  point_of c m (own w n e a) = record {
    line = w.line;
    begun = own_begun c m w n e;
    ended = λ line d. own_ended c m w n e line c.end refl d;
    written = λ z k d. omega (arith, ap (λ y. y.line) (f.unique z w k n (d ∙ sym a)));
  }
  point_of {v} c m (check e) =
      let k = checked_how h f c.number v e in
      let s = checked_call h f c m e in
      record {
        line = k.how.check.line;
        begun = omega (arith, k.how.after, ap (λ y. y.begun) s);
        ended = λ line d. omega (arith, k.how.before, answer_line (rw (← s, k.ended) at d));
        written = λ z n d. f.written k.how.check k.how.made z n (d ∙ sym k.at);
      }

  module _ (c d : Call M) (m : c ∈ h.calls) (n : d ∈ h.calls) (line : ℕ) (ended : EndedIn c.end line) (later : line < d.begun) where
    -- c, which stands somewhere, is not d
    pub ended_other : {v : Version} → Place h f c.number v → c.number ≡ d.number → ⊥
    ended_other p e = let s = point_of c m p in omega (arith, s.begun, s.ended line ended, ap (λ y. y.begun) (f.numbered c d m n e))

    -- and d does not precede c: what was written when c ended is too old to come from d's own write, and is at most the version
    -- of d's check; two calls checked at one version stand by their numbers, and c began first
    pub ended_first : Precedes d.number c.number → ⊥
    ended_first (rises (own w k e a) z i b p) =
        let s = point_of c m p in
        omega (arith, s.written z i refl, s.ended line ended, own_begun d n w k e, age h f w k (up z i refl (rw (← a) at b)) z i refl)
    ended_first (rises {v} (check e) z i b p) =
        let s = point_of c m p in
        let k = checked_how h f d.number v e in
        let old : z.line < k.how.check.line = omega (arith, s.written z i refl, s.ended line ended, k.how.after, ap (λ y. y.begun) (checked_call h f d n e)) in
        ancestor_of_parent z i b (rw k.at at (fresh h f k.how.check k.how.made k.how.confirmed z i old))
    ended_first (own_first w k e g) =
        let s = point_of c m (check g) in
        omega (arith, s.written w k refl, s.ended line ended, own_begun d n w k e)
    ended_first (by_number e g l) =
        let s = point_of c m (check g) in
        omega (arith, f.in_turn c d m n (omega (arith, s.begun, s.ended line ended)))
