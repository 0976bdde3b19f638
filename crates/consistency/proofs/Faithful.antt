-- The definitions set the mark of a round's own leader without asking it. That is what asking would give: the vote of a leader that
-- runs is its number, so it accepts its own request. (A leader that was cut may have voted above it.)
use mathlib.Core.Path.{◌≡◌, refl, sym, ◌∙◌, ap}
use mathlib.Core.List.{List, [], ◌∷◌}
use Prim.Native.Nat.{ℕ, ◌+◌, ◌≤◌}
use native.Mathlib.Omega.{arith}
use borrow.Author.Tests.{le-ltb}
use Rattle.model.specs.Cluster.{Purpose, Server, Message}
use Rattle.model.specs.Replica.{Request, reading, writing, request_body, may_accept, accepting, acknowledging}
use Rattle.model.specs.Leader.{reaction, no_reaction, with_stored, reply_to, replying, step_down, opening, on_request, handle}
use Rattle.model.specs.Lines.{initial_state}
use Rattle.model.specs.Run.{state_after}
use Rattle.model.proofs.Replicas.{accepting_keeps, step_down_cases}
use Rattle.consistency.proofs.Reached.{server_in, LeadsIn, RunsIn}
use Rattle.consistency.proofs.Agreed.{leader_facts, reached}
use Rattle.consistency.proofs.Runs.{script_leaves}

pub leader_votes_for_its_number : (ls : List (List ℕ)) (p e : ℕ) → LeadsIn (state_after initial_state ls) p e → RunsIn (state_after initial_state ls) p
    → (server_in (state_after initial_state ls) p).stored.vote ≡ e
leader_votes_for_its_number ls p e (r, i) f =
    let h = script_leaves ls in
    (leader_facts h.now h.count h.buckets (reached ls).cluster h.log h.agrees p r).1 f ∙ i

-- the message that a round would send to its own leader
abbrev pub to_itself : ℕ → ℕ → Request → Server → Message
to_itself p b request s =
    record { sender = p; receiver = p; bucket = b; election = s.stored.number; round = s.volatile.last_round + 1; body = request_body request }

settled : (s : Server) → s.stored.vote ≤ s.stored.number → step_down s ≡ no_reaction s
settled s h =
    step_down_cases s (λ r. r ≡ no_reaction s) (λ e f. let z : ◌≡◌ {A = ℕ} 0 1 = cc (le-ltb _ _ h, f) in absurd (omega arith)) (λ f. refl) (λ e. refl)

requested : (p b : ℕ) (request : Request) (s : Server) → s.stored.vote ≡ s.stored.number
    → let st = accepting b s.stored.number p request s.stored in
    let m = to_itself p b request s in
    on_request p m request s ≡ reaction (with_stored s st) (reply_to p m (acknowledging b request st) ∷ []) []
unfolding on_request may_accept
requested p b request s v =
    let st = accepting b s.stored.number p request s.stored in
    let m = to_itself p b request s in
    let (y, x) = accepting_keeps b s.stored.number p request s.stored in
    rw (on_request, may_accept, le-ltb s.stored.number s.stored.vote (omega arith))
    (ap (λ r. replying r (reply_to p m (acknowledging b request st))) (settled (with_stored s st) (omega arith)))

-- a server whose vote is its number would acknowledge the request of its own round if it were sent to it, store what the opening of
-- the round stores, and lead on
pub accepts_own_request : (n p b : ℕ) (purpose : Purpose) (request : Request) (s : Server) → s.stored.vote ≡ s.stored.number
    → let st = (opening n p b purpose request s).stored in
    let m = to_itself p b request s in
    handle n p m s ≡ reaction (with_stored s st) (reply_to p m (acknowledging b request st) ∷ []) []
unfolding handle opening request_body
accepts_own_request n p b purpose reading s v = requested p b reading s v
accepts_own_request n p b purpose (writing c) s v = requested p b (writing c) s v

-- every running leader that a script reaches is such a server
pub leader_accepts_its_own_requests : (ls : List (List ℕ)) (n p e b : ℕ) (purpose : Purpose) (request : Request) → LeadsIn (state_after initial_state ls) p e → RunsIn (state_after initial_state ls) p
    → let s = server_in (state_after initial_state ls) p in
    let st = (opening n p b purpose request s).stored in
    let m = to_itself p b request s in
    handle n p m s ≡ reaction (with_stored s st) (reply_to p m (acknowledging b request st) ∷ []) []
leader_accepts_its_own_requests ls n p e b purpose request l f = accepts_own_request n p b purpose request (server_in (reached ls) p) (leader_votes_for_its_number ls p e l f ∙ sym l.1)

-- and its vote is still its number afterwards, where a line opens more than one round
pub opening_keeps_vote : (n p b : ℕ) (purpose : Purpose) (request : Request) (s : Server) → (opening n p b purpose request s).stored.vote ≡ (opening n p b purpose request s).stored.number
unfolding opening
opening_keeps_vote n p b purpose request s = let (y, x) = accepting_keeps b s.stored.number p request s.stored in x ∙ sym y
