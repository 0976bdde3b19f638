-- What server p adds to the log leaves every other server in agreement with it.
use mathlib.Core.Path.{◌≡◌, sym, ◌∙◌, ap}
use mathlib.Core.Logic.{inl, inr, ◌≢◌}
use Prim.Native.Nat.{ℕ}
use Rattle.model.specs.Cluster.{Copy, Stored, copy_at, Role, follower, candidate, leading, Call, Volatile, round_at, call_at, Server}
use Rattle.consistency.proofs.Log.{Log}
use Rattle.consistency.proofs.Claims.{Won}
use Rattle.consistency.proofs.Invariant.{LogOk, StoredOk, CallOk, CopyNewest, RoleOk, AnyServerOk}
use Rattle.consistency.proofs.Growth.{won_grows, holds_grows, TakenAt, Adds, one_winner}
use Rattle.consistency.proofs.Buckets.{Untouched, call_grows, bucket_grows}

module _ (n : ℕ) {p q : ℕ} (apart : q ≢ p) {now taken : ℕ} {a b : Log} (add : Adds p a b) (ok : LogOk n now taken b) where
  -- a call that was taken at q was not taken at p
  elsewhere : {k : ℕ} {c : Call} → CallOk a q k c → TakenAt b p c.number → ⊥
  elsewhere c t =
      apart (ap (λ y. y.server) (ok.calls.begun_once _ t.0 (add.grows.begins _ c.begun) t.1 (sym t.2)) ∙ t.3)

  untouched : {k : ℕ} {c : Call} → CallOk a q k c → Untouched a b c.number
  untouched c =
      record {
        unwritten = λ u w m e. elim (add.writes w m) [ inl k ↦ u w k e | inr f ↦ elsewhere c (f.1 _ e) ];
        unended = λ u x m e. elim (add.ends x m) [ inl k ↦ u x k e | inr t ↦ elsewhere c (rw e at t) ];
      }

  -- nobody else writes under a number that q won
  not_under : {e f : ℕ} → Won a e q → f ≡ e → Won b f p → ⊥
  not_under won i h = apart (one_winner n ok.votes (won_grows add.grows won) (rw i at h))

  newest_stays : {e k : ℕ} {copy : Copy} → Won a e q → CopyNewest a e k copy → CopyNewest b e k copy
  newest_stays won h =
      record {
        recovered = λ i w m j l. elim (add.writes w m) [ inl o ↦ h.recovered i w o j l | inr f ↦ absurd (not_under won l f.0) ];
        unrecovered = λ i w m j l. elim (add.writes w m) [ inl o ↦ h.unrecovered i w o j l | inr f ↦ not_under won l f.0 ];
      }

  stored_stays : {st : Stored} → StoredOk a q st → StoredOk b q st
  stored_stays h =
      record {
        number = h.number;
        votes = λ x m e. elim (add.votes x m) [ inl o ↦ h.votes x o e | inr f ↦ absurd (apart (sym e ∙ f)) ];
        voted = λ l. elim (h.voted l) [ inl v ↦ inl (add.grows.votes _ v) | inr w ↦ inr (won_grows add.grows w) ];
        wins = λ x m e. elim (add.wins x m) [ inl o ↦ h.wins x o e | inr f ↦ absurd (apart (sym e ∙ f)) ];
        copies = λ k. (holds_grows add.grows (h.copies k).0, (h.copies k).1);
        accepts = λ x m e. elim (add.accepts x m) [ inl o ↦ h.accepts x o e | inr f ↦ absurd (apart (sym e ∙ f)) ];
        reports = λ x m e. elim (add.reports x m) [ inl o ↦ h.reports x o e | inr f ↦ absurd (apart (sym e ∙ f)) ];
      }

  role_stays : (st : Stored) (w : Volatile) (r : Role) → RoleOk n a q st w r → RoleOk n b q st w r
  role_stays st w follower h = h
  role_stays st w candidate h = (
    h.0,
    h.1,
    h.2,
    λ x m e f. elim (add.wins x m) [ inl o ↦ h.3 x o e f | inr g ↦ apart (sym f ∙ g) ],
    λ i m. add.grows.votes _ (h.4 i m),
  )
  role_stays st w leading h = (
    won_grows add.grows h.0,
    h.1,
    h.2,
    λ k. newest_stays h.0 (h.3 k),
    λ k. bucket_grows add.grows n q st.number k (copy_at st k) (round_at w k) (call_at w k) (λ x i c. untouched c) (h.4 k),
    λ o m e f. elim (add.rounds o m) [ inl k ↦ h.5 o k e f | inr g ↦ absurd (apart (sym e ∙ g)) ],
  )

  pub server_stays : {buckets : ℕ} {s : Server} → AnyServerOk n buckets a q s → AnyServerOk n buckets b q s
  server_stays {s = s} h =
      record {
        shape = h.shape;
        stored = stored_stays h.stored;
        won = λ e. won_grows add.grows (h.won e);
        calls = λ k c e. let o = h.calls k c e in call_grows add.grows (untouched o) o;
        role = λ e. role_stays s.stored s.volatile s.volatile.role (h.role e);
      }
