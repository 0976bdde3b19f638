-- What the rules of votes and elections make of a head stands for what the definitions of crates/model make of the server.
use Rattle.std.proofs.Common.{◌≡◌, ℕ, zero, suc, ◌+◌, ◌^◌, ◌<◌, true, false, eqb, ltb, leb, List, [], ◌∷◌, map, length, take, set, replicate, sym, refl, ap, ◌∙◌, mod-eq_of_lt, arith}
use Rattle.model.specs.Measures.{majority}
use Rattle.model.specs.Replica.{after_vote, voting}
use Rattle.model.specs.Leader.{Reaction, no_reaction, with_stored, with_volatile, ceased, cease, votes_for, standing, next_number, raised_to, elect, on_ack_vote}
use Rattle.model.proofs.Elections.{always_stands}
use Rattle.model.specs.Cluster as cluster
use Rattle.server.proofs.Counting.{set_viewed}
use Rattle.server.specs.declared.Head.{Head}
use Rattle.server.specs.Views.{Beside, server_in, stored_in, volatile_in, votes_in, idle, flag_in, role_in}
use Rattle.server.specs.Heads.{voting_head, after_vote_head, ceased_head, voted_head, role_by, standing_head, with_number, larger_number_of, elected_head, on_ack_vote_head}

after_vote_stored : (e p : ℕ) (h : Head) (copies : List cluster.Copy) → stored_in (after_vote_head e p h) copies ≡ after_vote e p (stored_in h copies)
unfolding after_vote_head after_vote
after_vote_stored e p h copies =
    elim (ltb h.vote e) as
    (λ b. stored_in (voting_head (elim b [ true ↦ e | false ↦ h.vote ]) (elim b [ true ↦ p | false ↦ h.leader ]) h) copies ≡ elim b [ true ↦ voting e p (stored_in h copies) | false ↦ stored_in h copies ])
    [ true ↦ refl | false ↦ refl ]

pub after_vote_means : (e p n : ℕ) (x : Beside) (h : Head) → server_in n x (after_vote_head e p h) ≡ with_stored (server_in n x h) (after_vote e p (stored_in h x.copies))
unfolding after_vote_head
after_vote_means e p n x h = ap (λ st. with_stored (server_in n x h) st) (after_vote_stored e p h x.copies)

-- no vote in seven places is what is left of seven votes
no_votes : (n : ℕ) (k : ℕ) (l : List ℕ) → length l ≡ k → map flag_in (take n (replicate k 0)) ≡ map (λ x. false) (map flag_in (take n l))
unfolding flag_in
no_votes zero k l h = refl
no_votes (suc n) zero [] h = refl
no_votes (suc n) zero (y ∷ l) h = absurd (omega arith)
no_votes (suc n) (suc k) [] h = absurd (omega arith)
no_votes (suc n) (suc k) (y ∷ l) h = ap (λ m. false ∷ m) (no_votes n k l (omega arith))

pub ceased_means : (n : ℕ) (x : Beside) (h : Head) → length h.votes ≡ 7 → server_in n (idle x) (ceased_head h) ≡ (cease (server_in n x h)).server
unfolding ceased cease role_in
ceased_means n x h seven =
    ap (λ l. record { stored = stored_in h x.copies; volatile = record { role = cluster.follower; votes = l; last_round = h.last; rounds = (idle x).rounds; calls = (idle x).calls }; stopped = flag_in h.stopped })
    (no_votes n 7 h.votes seven)

role_by_lem : (n k : ℕ) → role_in (role_by n k) ≡ elim (leb (majority n) k) [ true ↦ cluster.leading | false ↦ cluster.candidate ]
unfolding role_in role_by
role_by_lem n k =
    elim (leb (majority n) k) as (λ b. role_in (elim b [ true ↦ 2 | false ↦ 1 ]) ≡ elim b [ true ↦ cluster.leading | false ↦ cluster.candidate ])
    [ true ↦ refl | false ↦ refl ]

-- the role by the votes
pub standing_means : (n : ℕ) (x : Beside) (h : Head) → volatile_in n (standing_head n h) x.rounds x.calls ≡ standing n (votes_in n h) (volatile_in n h x.rounds x.calls)
unfolding standing
standing_means n x h = rw (role_by_lem n (votes_for (votes_in n h)))

-- ---- elections

one_more_vote : (n q : ℕ) (x : Beside) (h : Head) → server_in n x (standing_head n (voted_head q h)) ≡ with_volatile (server_in n x h) (standing n (set (votes_in n h) q true) (volatile_in n h x.rounds x.calls))
unfolding standing flag_in
one_more_vote n q x h =
    ap (λ w. with_volatile (server_in n x h) w)
    (standing_means n x (voted_head q h) ∙ ap (λ vs. standing n vs (volatile_in n h x.rounds x.calls)) (set_viewed flag_in n h.votes q 1))

pub elected_means : (n me : ℕ) (x : Beside) (h : Head) → length h.votes ≡ 7 → larger_number_of h + 1 < 2 ^ 32 → server_in n (idle x) (elected_head n me h) ≡ (elect n me (server_in n x h)).server
unfolding elected_head cease next_number
elected_means n me x h seven low =
    let s = server_in n x h in
    let e = next_number s.stored in
    let g = with_number e (voting_head e me (ceased_head h)) in
    let given : server_in n (idle x) g ≡ with_stored (cease s).server (voting e me (raised_to e s.stored)) =
    ap (λ y. with_stored y (voting e me (raised_to e s.stored))) (ceased_means n x h seven) in
    rw (mod-eq_of_lt low)
    (one_more_vote n me (idle x) g
    ∙ (ap (λ y. with_volatile y (standing n (set y.volatile.votes me true) y.volatile)) given ∙ sym (ap (λ r. r.server) (always_stands n me s))))

-- what an ACKVOTE makes of a server, by its role
abbrev acked : ℕ → ℕ → ℕ → cluster.Server → cluster.Role → Reaction
acked n q e s role =
    elim role [
      | cluster.follower ↦ no_reaction s
      | cluster.leading ↦ no_reaction s
      | cluster.candidate ↦
          elim (eqb e s.stored.number) [ false ↦ no_reaction s | true ↦ no_reaction (with_volatile s (standing n (set s.volatile.votes q true) s.volatile)) ]
    ]

pub on_ack_vote_means : (n q e : ℕ) (x : Beside) (h : Head) → server_in n x (on_ack_vote_head n q e h) ≡ (on_ack_vote n q e (server_in n x h)).server
unfolding on_ack_vote_head on_ack_vote role_in
on_ack_vote_means n q e x h =
    let s = server_in n x h in
    let t = standing_head n (voted_head q h) in
    elim (eqb h.role 1) as
    (λ b. server_in n x (elim b [ false ↦ h | true ↦ elim (eqb e h.number) [ false ↦ h | true ↦ t ] ]) ≡ (acked n q e s (elim b [ true ↦ cluster.candidate | false ↦ elim (eqb h.role 2) [ true ↦ cluster.leading | false ↦ cluster.follower ] ])).server) [
      | false ↦ elim (eqb h.role 2) as (λ b. s ≡ (acked n q e s (elim b [ true ↦ cluster.leading | false ↦ cluster.follower ])).server) [ true ↦ refl | false ↦ refl ]
      | true ↦
          elim (eqb e h.number) as
          (λ b. server_in n x (elim b [ false ↦ h | true ↦ t ]) ≡ (elim b as (λ z. Reaction) [ false ↦ no_reaction s | true ↦ no_reaction (with_volatile s (standing n (set (votes_in n h) q true) s.volatile)) ]).server)
          [ false ↦ refl | true ↦ one_more_vote n q x h ]
    ]
