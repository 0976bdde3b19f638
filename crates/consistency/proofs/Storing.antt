-- What a replica stores: a copy is replaced by a greater version, and what it acknowledged stays in agreement with the log.
use mathlib.Core.Path.{◌≡◌, refl}
use mathlib.Core.Logic.{inl, inr, ◌≢◌}
use mathlib.Core.List.{List}
use mathlib.Core.Bool.{Bool, true, false}
use Prim.Native.Nat.{ℕ, ◌≤◌, ◌<◌}
use native.Mathlib.Omega.{arith}
use native.Mathlib.Decide.{ℕ_discrete}
use lib.ListN.{length, get_or, set, length-set}
use lib.Seq.{get_or-set_same, get_or-set_other}
use Rattle.model.specs.Cluster.{Version, above, Copy, fresh_copy, Stored, copy_at}
use Rattle.model.specs.Replica.{voting, with_copy, storing}
use Rattle.history.specs.Version.{◌≼◌, ◌≺◌}
use Rattle.history.proofs.MemberLaws.{each_cons}
use Rattle.history.proofs.VersionLaws.{le_refl, le_trans, le_of_lt}
use Rattle.consistency.proofs.Log.{Accept, Report, Log}
use Rattle.consistency.proofs.Claims.{Won, Holds}
use Rattle.consistency.proofs.Invariant.{StoredOk}
use Rattle.consistency.proofs.Growth.{won_grows, holds_grows}
use Rattle.consistency.proofs.Acts.{add_accept, add_report}
use Rattle.consistency.proofs.Above.{above_lt, above_not}
use Rattle.consistency.proofs.Added.{adds_accept, adds_report}

-- what holds of the new element and of each other holds of all after `set`
pub each_set : {A : Type 0} (P : ℕ → A → Type 0) (l : List A) (b : ℕ) (x d : A) → b < length l → P b x → ((k : ℕ) → k ≢ b → P k (get_or l k d)) → (k : ℕ) → P k (get_or (set l b x) k d)
each_set P l b x d h new others k = go (ℕ_discrete k b)
  where
    go : Dec (k ≡ b) → P k (get_or (set l b x) k d)
    go (yes e) = rw (e, get_or-set_same l b x d h) new
    go (no e) = rw (get_or-set_other l b k x d e) (others k e)

module _ (b : ℕ) (c : Copy) (st : Stored) where
  -- an accepted write is stored if its version is above the copy's, and otherwise changes nothing
  pub storing_cases : (P : Stored → Type 0) → (c.version ≼ (copy_at st b).version → P st) → ((copy_at st b).version ≺ c.version → P (with_copy b c st)) → P (storing b c st)
  unfolding storing
  storing_cases P old new = go (above c.version (copy_at st b).version) refl
    where
      go : (x : Bool) → above c.version (copy_at st b).version ≡ x → P (elim x [ false ↦ st | true ↦ with_copy b c st ])
      go false e = old (above_not _ _ e)
      go true e = new (above_lt _ _ e)

  pub storing_keeps : ((storing b c st).number ≡ st.number) × ((storing b c st).vote ≡ st.vote) × (length (storing b c st).copies ≡ length st.copies)
  storing_keeps =
      storing_cases (λ x. (x.number ≡ st.number) × (x.vote ≡ st.vote) × (length x.copies ≡ length st.copies))
      (λ l. (refl, refl, refl)) (λ l. (refl, refl, length-set st.copies b c))

-- the number of a leader that a server accepts becomes its vote
pub heeded_stored : {log : Log} {p e q : ℕ} {st : Stored} → StoredOk log p st → st.vote ≤ e → Won log e q → StoredOk log p (voting e q st)
heeded_stored h l won =
    record {
      number = omega (arith, h.number);
      votes = λ x m f. omega (arith, h.votes x m f);
      voted = λ o. inr won;
      wins = h.wins;
      copies = λ b. ((h.copies b).0, omega (arith, (h.copies b).1));
      accepts = λ x m f. ((h.accepts x m f).0, omega (arith, (h.accepts x m f).1));
      reports = λ x m f. omega (arith, h.reports x m f);
    }

-- ---- an acknowledged write

abbrev pub acceptance : ℕ → ℕ → Version → Accept
acceptance p b v = record { server = p; bucket = b; at = v }

module _ (p b : ℕ) (c : Copy) (log : Log) where
  -- the copy of a version that was written, above the stored one, is stored: nothing is logged for that
  pub copy_stored : (st : Stored) → StoredOk log p st → c.version.election ≤ st.vote → b < length st.copies → Holds log b c.version c.table → (copy_at st b).version ≺ c.version
      → StoredOk log p (with_copy b c st)
  copy_stored st h bound inside held l =
      let newer = each_set (λ k x. (copy_at st k).version ≼ x.version) st.copies b c fresh_copy inside (le_of_lt l) (λ k d. le_refl _) in
      record {
        number = h.number;
        votes = h.votes;
        voted = h.voted;
        wins = h.wins;
        copies = each_set (λ k x. Holds log k x.version x.table × (x.version.election ≤ st.vote)) st.copies b c fresh_copy inside (held, bound) (λ k d. h.copies k);
        accepts = λ x m e. (le_trans (h.accepts x m e).0 (newer x.bucket), (h.accepts x m e).1);
        reports = h.reports;
      }

  -- and then acknowledged
  acknowledged_stored : (st : Stored) → StoredOk log p st → c.version.election ≤ st.vote → c.version ≼ (copy_at st b).version → StoredOk (add_accept (acceptance p b c.version) log) p st
  acknowledged_stored st h bound here =
      let g = (adds_accept log (acceptance p b c.version)).grows in
      record {
        number = h.number;
        votes = h.votes;
        voted = λ l. elim (h.voted l) [ inl x ↦ inl x | inr x ↦ inr (won_grows g x) ];
        wins = h.wins;
        copies = λ k. (holds_grows g (h.copies k).0, (h.copies k).1);
        accepts = each_cons (λ e. (here, bound)) (λ x m e. h.accepts x m e);
        reports = h.reports;
      }

  pub accept_stored : (st : Stored) → StoredOk log p st → c.version.election ≤ st.vote → b < length st.copies → Holds log b c.version c.table
      → StoredOk (add_accept (acceptance p b c.version) log) p (storing b c st)
  accept_stored st h bound inside held =
      storing_cases b c st (λ x. StoredOk (add_accept (acceptance p b c.version) log) p x)
      (λ l. acknowledged_stored st h bound l)
      (λ l. acknowledged_stored _ (copy_stored st h bound inside held l) bound (rw (get_or-set_same st.copies b c fresh_copy inside) (le_refl c.version)))

-- ---- an acknowledged read

abbrev pub reporting : ℕ → ℕ → ℕ → ℕ → Version → Report
reporting p b e k v = record { server = p; bucket = b; election = e; round = k; at = v }

module _ (p b e k : ℕ) (v : Version) (log : Log) where
  pub report_stored : (st : Stored) → StoredOk log p st → e ≤ st.vote → StoredOk (add_report (reporting p b e k v) log) p st
  report_stored st h bound =
      let g = (adds_report log (reporting p b e k v)).grows in
      record {
        number = h.number;
        votes = h.votes;
        voted = λ l. elim (h.voted l) [ inl x ↦ inl x | inr x ↦ inr (won_grows g x) ];
        wins = h.wins;
        copies = λ c. (holds_grows g (h.copies c).0, (h.copies c).1);
        accepts = h.accepts;
        reports = each_cons (λ f. bound) (λ x m f. h.reports x m f);
      }
