-- Theorems about every script, each by itself. A script is any list of lines `ls`; `state_after initial_state ls` is the state
-- that it reaches, and `ls ++ ms` is a script that goes on after `ls`. What is said of a server holds of a stopped one too.
-- Freshness, and what a call that ended as `notdone` leaves, are in Fresh.antt.
use mathlib.Core.Path.{◌≡◌, refl, sym, ◌∙◌, ap, subst, subst⁻¹}
use mathlib.Core.List.Memᴰ
use mathlib.Core.List.{List, [], ◌∷◌, ◌++◌, map, append-nil}
use mathlib.Core.Bool.{true}
use Prim.Native.Nat.{ℕ, ◌+◌, ◌≤◌}
use native.Mathlib.Omega.{arith}
use Rattle.model.specs.Cluster.{Copy, Stored, copy_at, Role, follower, candidate, leading, Server, Message, ack_write}
use Rattle.model.specs.Replica.{voting, writing, may_accept, storing, accepting, acknowledging}
use Rattle.model.specs.Leader.{with_stored, next_number, reply_to, on_request}
use Rattle.model.specs.Lines.{initial_state}
use Rattle.model.specs.Run.{state_after}
use Rattle.model.proofs.Replicas.{step_down_keeps}
use Rattle.history.specs.Version.{◌≼◌}
use Rattle.history.proofs.VersionLaws.{lt_not_le}
use Rattle.consistency.specs.Statement.{◌∈◌, Begin, End, Distinct, begins, ends}
use Rattle.consistency.proofs.Claims.{Holds}
use Rattle.consistency.proofs.Growth.{won_grows, holds_grows, one_winner}
use Rattle.consistency.proofs.Storing.{storing_cases}
use Rattle.consistency.proofs.OneTable.{one_table}
use Rattle.consistency.proofs.Onward.{Onward}
use Rattle.consistency.proofs.Reached.{server_in, LeadsIn, lines_onward, after_both}
use Rattle.consistency.proofs.Agreed.{leader_facts, number_voted, copy_held, reached, goes_on}
use Rattle.consistency.proofs.Runs.{begin_of, end_of, ran_of, script_leaves}

-- ---- at most one leader under an election number

-- over the whole run: whoever leads under a number, then or later, is the same server
pub one_leader_ever : (ls ms : List (List ℕ)) (p q e : ℕ) → LeadsIn (state_after initial_state ls) p e → LeadsIn (state_after initial_state (ls ++ ms)) q e → p ≡ q
one_leader_ever ls ms p q e (r, i) then =
    let h = script_leaves ls in
    let (bs, es, k) = goes_on ls ms in
    let (t, j) = subst (λ s. LeadsIn s q e) (after_both initial_state ls ms) then in
    let a = (leader_facts h.now h.count h.buckets (reached ls).cluster h.log h.agrees p r).0 in
    let b = (leader_facts k.now k.count k.buckets (state_after (reached ls) ms).cluster k.log k.agrees q t).0 in
    let ran = ran_of k in
    one_winner ran.servers ran.facts.votes (won_grows k.grows (rw i at a)) (rw j at b)

-- in one state
pub one_leader : (ls : List (List ℕ)) (p q e : ℕ) → LeadsIn (state_after initial_state ls) p e → LeadsIn (state_after initial_state ls) q e → p ≡ q
one_leader ls p q e a b = one_leader_ever ls [] p q e a (rw (append-nil ls) b)

-- ---- election numbers

-- a server that stands votes for itself, so its number is never above its vote, and its next election is one above the vote
pub elected_above_the_vote : (ls : List (List ℕ)) (p : ℕ) → let st = (server_in (state_after initial_state ls) p).stored in next_number st ≡ st.vote + 1
unfolding next_number
elected_above_the_vote ls p =
    let h = script_leaves ls in
    let l = number_voted h.now h.count h.buckets (reached ls).cluster h.log h.agrees p in
    omega arith

-- ---- a server that ceased to lead under a number never leads under it again

past : (s t u : Server) (e : ℕ) → Onward s t → Onward t u → s.volatile.role ≡ leading → s.stored.number ≡ e
    → ((t.volatile.role ≡ leading) × (t.stored.number ≡ e) → ⊥) → (u.volatile.role ≡ leading) × (u.stored.number ≡ e) → ⊥
past s t u e f g i j not-then (k, l) = go t.volatile.role refl
  where
    same : t.stored.number ≡ e
    same = omega (arith, f.number, g.number)

    go : (r : Role) → t.volatile.role ≡ r → ⊥
    go leading x = not-then (x, same)
    go candidate x = let m : 1 ≤ 0 = rw (i, x) at (f.role (same ∙ sym j)) in omega arith
    go follower x = let m : 2 ≤ 1 = rw (x, k) at (g.role (l ∙ sym same)) in omega arith

pub never_leads_again : (ls ms ks : List (List ℕ)) (p e : ℕ) → LeadsIn (state_after initial_state ls) p e
    → (LeadsIn (state_after initial_state (ls ++ ms)) p e → ⊥) → LeadsIn (state_after initial_state ((ls ++ ms) ++ ks)) p e → ⊥
never_leads_again ls ms ks p e (i, j) =
    let f : Onward (server_in (reached ls) p) (server_in (reached (ls ++ ms)) p) = rw (after_both initial_state ls ms) (lines_onward (reached ls) ms p) in
    let g : Onward (server_in (reached (ls ++ ms)) p) (server_in (reached ((ls ++ ms) ++ ks)) p) = rw (after_both initial_state (ls ++ ms) ks) (lines_onward (reached (ls ++ ms)) ks p) in
    past _ _ _ e f g i j

-- ---- a late copy of an old write never replaces a newer one

-- the rule: an accepted write whose version is not above the stored one changes nothing
pub late_write_changes_nothing : (b : ℕ) (c : Copy) (st : Stored) → c.version ≼ (copy_at st b).version → storing b c st ≡ st
late_write_changes_nothing b c st h = storing_cases b c st (λ x. x ≡ st) (λ l. refl) (λ l. absurd (lt_not_le l h))

-- a server that accepts such a write acknowledges it and keeps its copies
pub late_write_acknowledged : (me : ℕ) (m : Message) (c : Copy) (s : Server) → may_accept m.election s.stored ≡ true → c.version ≼ (copy_at s.stored m.bucket).version
    → ((on_request me m (writing c) s).sends ≡ reply_to me m ack_write ∷ []) × ((on_request me m (writing c) s).server.stored.copies ≡ s.stored.copies)
unfolding on_request accepting acknowledging
late_write_acknowledged me m c s e h =
    let st = voting m.election m.sender s.stored in
    rw (on_request, e)
    (refl, ap (λ x. x.copies) ((step_down_keeps (with_stored s (storing m.bucket c st))).0 ∙ late_write_changes_nothing m.bucket c st h))

-- the machine: whatever lines follow, no server's copy of a bucket is older than it was
pub copies_never_older : (ls ms : List (List ℕ)) (p b : ℕ)
    → (copy_at (server_in (state_after initial_state ls) p).stored b).version ≼ (copy_at (server_in (state_after initial_state (ls ++ ms)) p).stored b).version
copies_never_older ls ms p b = rw (after_both initial_state ls ms) ((lines_onward (reached ls) ms p).copies b)

-- and a copy of the same version, at that server or another, then or later, has the same table
pub same_version_same_table : (ls ms : List (List ℕ)) (p q b : ℕ)
    → (copy_at (server_in (state_after initial_state ls) p).stored b).version ≡ (copy_at (server_in (state_after initial_state (ls ++ ms)) q).stored b).version
    → (copy_at (server_in (state_after initial_state ls) p).stored b).table ≡ (copy_at (server_in (state_after initial_state (ls ++ ms)) q).stored b).table
same_version_same_table ls ms p q b = rw (after_both initial_state ls ms) go
  where
    go : (copy_at (server_in (reached ls) p).stored b).version ≡ (copy_at (server_in (state_after (reached ls) ms) q).stored b).version
        → (copy_at (server_in (reached ls) p).stored b).table ≡ (copy_at (server_in (state_after (reached ls) ms) q).stored b).table
    go e =
        let h = script_leaves ls in
        let (bs, es, k) = goes_on ls ms in
        let x = copy_held h.now h.count h.buckets (reached ls).cluster h.log h.agrees p b in
        let y = copy_held k.now k.count k.buckets (state_after (reached ls) ms).cluster k.log k.agrees q b in
        let ran = ran_of k in
        one_table ran.facts (holds_grows k.grows x)
        (subst⁻¹ (λ v. Holds k.log b v (copy_at (server_in (state_after (reached ls) ms) q).stored b).table) e y)

-- ---- every answer given was given once

pub answered_once : (ls : List (List ℕ)) → Distinct (map (λ y. y.number) (ends ls))
answered_once ls = (script_leaves ls).same.once

-- ---- every answer is that of a call accepted in the same line or an earlier one

pub answered_was_begun : (ls : List (List ℕ)) (e : End) → e ∈ ends ls → (x : Begin) × (x ∈ begins ls) × (x.number ≡ e.number) × (x.line ≤ e.line)
answered_was_begun ls e m =
    let h = script_leaves ls in
    let (z, o, u) = Memᴰ.of_map end_of h.log.ends (h.same.ended e m) in
    let (y, k, n, l) = (ran_of h).facts.calls.ended_begun z o in
    (begin_of y, h.same.begins _ (Memᴰ.map begin_of k), n ∙ ap (λ x. x.number) u, subst (λ x. y.line ≤ x.line) u l)
