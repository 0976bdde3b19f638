-- Votes counted, elections, timeouts and stops as moves.
use mathlib.Core.Path.{◌≡◌, refl, sym, ap, ap₂, ◌∙◌}
use mathlib.Core.Bool.{true, false}
use mathlib.Core.List.{List, []}
use Prim.Native.Nat.{ℕ, ◌+◌, ◌<◌, ◌^◌}
use native.Mathlib.Nat.{mod-eq_of_lt}
use lib.Dec.{eqb}
use lib.ListN.{set}
use Rattle.entries.specs.Entries.{Entry}
use Rattle.model.specs.Calls as calls
use Rattle.model.specs.Cluster as cluster
use Rattle.model.specs.Leader.{Reaction, reaction, no_reaction, with_volatile, endings, cease, broadcast, standing, stand_for_election, next_number, elect, on_ack_vote}
use Rattle.server.specs.Views.{beside_in, flag_in}
use Rattle.server.specs.Heads.{larger_number_of, elected_head, on_ack_vote_head}
use Rattle.server.proofs.HeadLaws as heads
use Rattle.moves.specs.declared.Local.{Local}
use Rattle.moves.specs.Moves.{with_head, quiet, elected_move, ceased_move, stopped_move}
use Rattle.moves.specs.Reactions.{Seen, Tables, work_after, copy_after, Asked, sends_in, answers_in, server_after, answers_after, reaction_in}
use Rattle.moves.proofs.Ceasing.{placed, seen_itself, calls_kept, ceasing_means}

-- what an ACKVOTE makes of a server, by its role
abbrev acked : ℕ → ℕ → ℕ → cluster.Server → cluster.Role → Reaction
acked n q e s role =
    elim role [
      | cluster.follower ↦ no_reaction s
      | cluster.leading ↦ no_reaction s
      | cluster.candidate ↦
          elim (eqb e s.stored.number) [ false ↦ no_reaction s | true ↦ no_reaction (with_volatile s (standing n (set s.volatile.votes q true) s.volatile)) ]
    ]

acked_is_quiet : (n q e : ℕ) (s : cluster.Server) (role : cluster.Role) → acked n q e s role ≡ no_reaction (acked n q e s role).server
acked_is_quiet n q e s cluster.follower = refl
acked_is_quiet n q e s cluster.leading = refl
acked_is_quiet n q e s cluster.candidate =
    let w = with_volatile s (standing n (set s.volatile.votes q true) s.volatile) in
    elim (eqb e s.stored.number) as (λ z. let r : Reaction = elim z [ false ↦ no_reaction s | true ↦ no_reaction w ] in r ≡ no_reaction r.server)
    [ true ↦ refl | false ↦ refl ]

-- a vote that is counted sends nothing and answers nothing
ack_vote_is_quiet : (n q e : ℕ) (s : cluster.Server) → on_ack_vote n q e s ≡ no_reaction (on_ack_vote n q e s).server
unfolding on_ack_vote
ack_vote_is_quiet n q e s = acked_is_quiet n q e s s.volatile.role

-- an election sends PLEASEVOTE under the next number, and ends all calls
elected_so : (n me : ℕ) (s : cluster.Server)
    → elect n me s ≡ reaction (elect n me s).server (broadcast n me 0 (next_number s.stored) 0 cluster.please_vote) (endings s.volatile.calls)
unfolding elect cease stand_for_election
elected_so n me s = refl

module _ (n me b : ℕ) (a : Asked) (s : cluster.Server) (l : Local) (t : Tables) (words : calls.Words) (v : List ℕ) (u : List Entry)
    (seen : Seen n b s l t.copy t.work words) where
  pub ack_vote_means : (q e : ℕ) → on_ack_vote n q e s ≡ reaction_in n me b a (quiet (with_head (on_ack_vote_head n q e l.head) l)) t words v u s
  unfolding server_after answers_after answers_in sends_in work_after copy_after
  ack_vote_means q e =
      let s1 = placed n b l t words s in
      ap (on_ack_vote n q e) (seen_itself n b s l t words seen)
      ∙ (ack_vote_is_quiet n q e s1 ∙ ap no_reaction (sym (heads.on_ack_vote_means n q e (beside_in s1) l.head)))

  elected_sends : larger_number_of l.head + 1 < 2 ^ 32
      → broadcast n me 0 (larger_number_of l.head + 1) 0 cluster.please_vote ≡ sends_in n me b a (elected_move n me l) t
  unfolding elected_head sends_in elected_move
  elected_sends low = ap (λ i. broadcast n me 0 i 0 cluster.please_vote) (sym (mod-eq_of_lt low))

  pub elected_means : larger_number_of l.head + 1 < 2 ^ 32 → elect n me s ≡ reaction_in n me b a (elected_move n me l) t words v u s
  unfolding server_after answers_after work_after copy_after elected_move next_number
  elected_means low =
      let s1 = placed n b l t words s in
      let server : (elect n me s1).server ≡ server_after n b (elected_move n me l) t words s =
      sym (heads.elected_means n me (beside_in s1) l.head seen.votes low) in
      ap (elect n me) (seen_itself n b s l t words seen)
      ∙ (elected_so n me s1
      ∙ (ap₂ (λ z ms. reaction z ms (endings s1.volatile.calls)) server (elected_sends low)
      ∙ ap (λ out. reaction (server_after n b (elected_move n me l) t words s) (sends_in n me b a (elected_move n me l) t) (endings out)) (calls_kept n b s l t words seen)))

  pub ceased_means : cease s ≡ reaction_in n me b a (ceased_move l) t words v u s
  ceased_means = ceasing_means n me b a s l t words v u seen

  pub stopped_means : reaction (record { stored = s.stored; volatile = s.volatile; stopped = true }) [] [] ≡ reaction_in n me b a (stopped_move l) t words v u s
  unfolding server_after answers_after answers_in sends_in work_after copy_after flag_in
  stopped_means = ap (λ z. no_reaction (record { stored = z.stored; volatile = z.volatile; stopped = true })) (seen_itself n b s l t words seen)
