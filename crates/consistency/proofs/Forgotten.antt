-- Calls that are never answered (RULES, Restarts 4): a call that is open at a stopped server is answered neither before nor later.
-- Such are the calls that a server has open when it is started: the start empties their slots and prints nothing.
use mathlib.Core.Path.{◌≡◌, refl, sym, ◌∙◌, ap, subst, subst⁻¹}
use mathlib.Core.Logic.{◌⊎◌, inl, inr, ◌≢◌}
use mathlib.Core.List.Memᴰ
use mathlib.Core.List.{List, [], ◌∷◌, ◌++◌, map}
use mathlib.Core.Bool.{Bool, true, false, not}
use mathlib.Core.Option.{Option, none, some}
use Prim.Native.Nat.{ℕ, ◌+◌, ◌≤◌}
use native.Mathlib.Omega.{arith}
use lib.Dec.{eqb}
use lib.ListN.{length, get_or, set, get_or-map}
use Rattle.entries.specs.Entries.{Entry}
use Rattle.model.specs.Measures.{max_election}
use Rattle.model.specs.Calls.{Words, Result, done, Effect, answers, writes, effect, bucket_for, Answer}
use Rattle.model.specs.Cluster.{Copy, fresh_copy, Stored, copy_at, Role, follower, candidate, leading, Purpose, recovery_read, recovery_write, check, own_write, Mark, acknowledged, refused, Round, Call, round_at, call_at, Server, Body, please_vote, ack_vote, nack_vote, replica_write, ack_write, nack_write, replica_read, ack_read, nack_read, Message, Cluster, fresh_server}
use Rattle.model.specs.Replica.{Request, reading, writing, may_accept, accepting, acknowledging, refusing}
use Rattle.model.specs.Leader.{Reaction, reaction, no_reaction, after, with_stored, with_round, ceased, forgotten, cease, step_down, standing, on_ack_vote, closes, fails, new_round, is_own, one_more, opening, open_round, answer_of, finish, applying, after_read, checking, recovering, recovered, start_read, start_call, begin_call, closed, counted, counting, on_reply, on_please_vote, on_request, handle}
use Rattle.model.specs.Leader
use Rattle.model.specs.Lines.{Line, cluster, elect, call, deliver, copy, lose, timeout, stop, cut, start, State, initial_state, Outcome, refusal, printed, LineResult, Work, server_at, message_at, drop_at, stopped_at, restarted, by_line, lost_message, delivered_to, delivery, work, first_of, conditions, conditions_up_to}
use Rattle.model.specs.Parse.{parse}
use Rattle.model.specs.Run.{step, state_after, state_after_up_to, outcomes, outcomes_up_to}
use Rattle.model.proofs.Elections.{always_stands}
use Rattle.model.proofs.FirstRound.{first_round}
use Rattle.model.proofs.Replicas.{step_down_cases}
use Rattle.history.specs.Members.{◌∈◌}
use Rattle.history.proofs.MemberLaws.{none_in, clash}
use Rattle.limits.specs.Lists.{All, nil, cons}
use Rattle.limits.proofs.Counting.{none_applies}
use Rattle.limits.proofs.Refusals.{ComesOut, refused_by_lem, founded, took, comes_out}
use Rattle.consistency.specs.Statement.{End, ends_from, ends}
use Rattle.consistency.proofs.Log.{Log}
use Rattle.consistency.proofs.Invariant.{CallOk}
use Rattle.consistency.proofs.Onward.{set_either}
use Rattle.consistency.proofs.Once.{numbers_of, in_endings}
use Rattle.consistency.proofs.Reached.{server_of, server_in}
use Rattle.consistency.proofs.Runs.{end_of, RunOk, script_leaves}
use Rattle.consistency.proofs.Agreed.{reached, open_call}

-- what stands in a slot is no call of number x
abbrev Other : ℕ → Option Call → Type 0
Other x none = Unit {0}
Other x (some c) = c.number ≢ x

-- the server has no call of number x open
abbrev Without : ℕ → Server → Type 0
Without x s = (b : ℕ) → Other x (call_at s.volatile b)

-- nor has it after a step, which does not answer that call
record Silent (x : ℕ) (r : Reaction) : Type 0 where
  server : Without x r.server
  answers : x ∈ numbers_of r.answers → ⊥

-- ---- the rules of a server that has no such call open

module _ (x : ℕ) where
  still : (s : Server) (ms : List Message) → Without x s → Silent x (reaction s ms [])
  still s ms h = record { server = h; answers = λ m. none_in m }

  -- a slot is set, all are emptied, a round is counted for the call in one, or that call ends
  slot_set : (l : List (Option Call)) (b : ℕ) (o : Option Call) → ((k : ℕ) → Other x (get_or l k none)) → Other x o → (k : ℕ) → Other x (get_or (set l b o) k none)
  slot_set l b o h g k = set_either (Other x) l b k o none (h k) (λ e. g)

  slots_emptied : (l : List (Option Call)) (k : ℕ) → Other x (get_or (map (λ y. none) l) k none)
  slots_emptied l k = subst⁻¹ (Other x) (get_or-map (λ y. none) l k none) tt

  one_more_lem : (own : Bool) (o : Option Call) → Other x o → Other x (one_more own o)
  unfolding one_more
  one_more_lem own none h = tt
  one_more_lem own (some c) h = h

  not_answered : (r : Result) (o : Option Call) → Other x o → x ∈ numbers_of (answer_of r o) → ⊥
  unfolding answer_of
  not_answered r none h m = none_in m
  not_answered r (some c) h (Memᴰ.head e) = h (sym e)
  not_answered r (some c) h (Memᴰ.tail m) = none_in m

  finish_silent : (b : ℕ) (r : Result) (s : Server) → Without x s → Silent x (finish b r s)
  unfolding finish
  finish_silent b r s h =
      record { server = slot_set s.volatile.calls b none h tt; answers = not_answered r (call_at s.volatile b) (h b) }

  module _ (n me b : ℕ) where
    opening_without : (purpose : Purpose) (request : Request) (s : Server) → Without x s → Without x (opening n me b purpose request s)
    unfolding opening
    opening_without purpose request s h = slot_set s.volatile.calls b _ h (one_more_lem (is_own purpose) (call_at s.volatile b) (h b))

    open_silent : (purpose : Purpose) (request : Request) (next : Server → Reaction) → ((t : Server) → Without x t → Silent x (next t)) → (s : Server) → Without x s → Silent x (open_round n me b purpose request next s)
    unfolding open_round
    open_silent purpose request next f s h = go _ _ (closes n (new_round n me b purpose s)) (opening_without purpose request s h)
      where
        go : (t : Server) (ms : List Message) (now : Bool) → Without x t → Silent x (elim now [ true ↦ after ms (next t) | false ↦ reaction t ms [] ])
        go t ms true k = record { server = (f t k).server; answers = (f t k).answers }
        go t ms false k = still t ms k

    applying_silent : (y : Effect) (s : Server) → Without x s → Silent x (applying n me b y s)
    unfolding applying
    applying_silent (answers r) s h = finish_silent b r s h
    applying_silent (writes t) s h = open_silent own_write _ (finish b done) (finish_silent b done) s h

    after_read_silent : (s : Server) → Without x s → Silent x (after_read n me b s)
    unfolding after_read
    after_read_silent s h =
        elim (call_at s.volatile b) as
        (λ c. Silent x (elim c [ none ↦ no_reaction s | some c ↦ applying n me b (effect c.words (copy_at s.stored b).table) s ]))
        [ none ↦ still s [] h | some c ↦ applying_silent _ s h ]

    checking_silent : (s : Server) → Without x s → Silent x (checking n me b s)
    unfolding checking
    checking_silent s h = open_silent check reading (after_read n me b) after_read_silent s h

    recovering_silent : (t : List Entry) (s : Server) → Without x s → Silent x (recovering n me b t s)
    unfolding recovering
    recovering_silent t s h = open_silent recovery_write _ (checking n me b) checking_silent s h

    start_read_silent : (s : Server) → Without x s → Silent x (start_read n me b s)
    unfolding start_read
    start_read_silent s h =
        elim (recovered s.stored.number (copy_at s.stored b)) as
        (λ t. Silent x (elim t [ true ↦ checking n me b s | false ↦ open_round n me b recovery_read reading (recovering n me b (copy_at s.stored b).table) s ])) [
          | true ↦ checking_silent s h
          | false ↦ open_silent recovery_read reading (recovering n me b (copy_at s.stored b).table) (recovering_silent _) s h
        ]

    start_call_silent : (words : Words) (s : Server) → Without x s → Silent x (start_call n me b words s)
    start_call_silent words s h = first_round n me b words s (Silent x) (λ t e made. applying_silent (writes t) s h) (start_read_silent s h)

    -- a call of another number is taken
    begin_call_silent : (i : ℕ) → i ≢ x → (words : Words) (s : Server) → Without x s → Silent x (begin_call n me b i words s)
    unfolding begin_call
    begin_call_silent i other words s h =
        start_call_silent words _ (slot_set s.volatile.calls b (some (record { number = i; words = words; rounds = 0; sent = false })) h other)

    closed_silent : (r : Round) (s : Server) → Without x s → Silent x (closed n me b r s)
    unfolding closed
    closed_silent r s h =
        elim r.purpose as
        (λ u. Silent x (elim u [ recovery_read ↦ recovering n me b r.best.table s | recovery_write ↦ checking n me b s | check ↦ after_read n me b s | own_write ↦ finish b done s ]))
        [ recovery_read ↦ recovering_silent _ s h | recovery_write ↦ checking_silent s h | check ↦ after_read_silent s h | own_write ↦ finish_silent b done s h ]

  -- all open calls end
  cease_silent : (s : Server) → Without x s → Silent x (cease s)
  unfolding cease ceased
  cease_silent s h =
      record {
        server = slots_emptied s.volatile.calls;
        answers = λ m. let (b, c, e, f) = in_endings s.volatile.calls x m in subst (Other x) e (h b) (sym f);
      }

  -- a server that comes back has no call open
  start_without : (s : Server) → Without x (restarted s)
  unfolding forgotten ceased
  start_without s = slots_emptied s.volatile.calls

  step_down_silent : (s : Server) (ms : List Message) → Without x s → Silent x (reaction (step_down s).server ms (step_down s).answers)
  step_down_silent s ms h =
      step_down_cases s (λ r. Silent x (reaction r.server ms r.answers))
      (λ e f. let g = cease_silent s h in record { server = g.server; answers = g.answers }) (λ f. still s ms h) (λ e. still s ms h)

  elect_silent : (n me : ℕ) (s : Server) → Without x s → Silent x (Leader.elect n me s)
  unfolding cease standing
  elect_silent n me s h = let g = cease_silent s h in rw (always_stands n me s) (record { server = g.server; answers = g.answers })

  ackvote_silent : (n q e : ℕ) (s : Server) → Without x s → Silent x (on_ack_vote n q e s)
  unfolding on_ack_vote standing
  ackvote_silent n q e s h = go s.volatile.role (eqb e s.stored.number)
    where
      go : (r : Role) (t : Bool) → Silent x (elim r [
        | follower ↦ no_reaction s
        | leading ↦ no_reaction s
        | candidate ↦ elim t [ false ↦ no_reaction s | true ↦ no_reaction (Leader.with_volatile s (standing n (set s.volatile.votes q true) s.volatile)) ]
      ])
      go follower t = still s [] h
      go leading t = still s [] h
      go candidate false = still s [] h
      go candidate true = still _ [] h

  module _ (n me : ℕ) (m : Message) (s : Server) (h : Without x s) where
    counting_silent : (b : ℕ) (r : Round) → Silent x (counting n me b r s)
    unfolding counting
    counting_silent b r = go (closes n r) (fails n r)
      where
        go : (t u : Bool) → Silent x (elim t [ true ↦ closed n me b r (with_round s b r) | false ↦ elim u [ true ↦ cease s | false ↦ no_reaction (with_round s b r) ] ])
        go true u = closed_silent n me b r (with_round s b r) h
        go false true = cease_silent s h
        go false false = still (with_round s b r) [] h

    reply_silent : (mark : Mark) (report : Copy) → Silent x (on_reply n me m mark report s)
    unfolding on_reply
    reply_silent mark report = by_round (round_at s.volatile m.bucket)
      where
        by_number : (r : Round) (t u : Bool)
            → Silent x (elim t [ false ↦ no_reaction s | true ↦ elim u [ false ↦ no_reaction s | true ↦ counting n me m.bucket (counted m.sender mark report r) s ] ])
        by_number r false u = still s [] h
        by_number r true false = still s [] h
        by_number r true true = counting_silent m.bucket (counted m.sender mark report r)

        by_round : (o : Option Round) → Silent x (elim o [
          | none ↦ no_reaction s
          | some r ↦ elim (eqb m.election r.election) [
            | false ↦ no_reaction s
            | true ↦ elim (eqb m.round r.number) [ false ↦ no_reaction s | true ↦ counting n me m.bucket (counted m.sender mark report r) s ]
          ]
        ])
        by_round none = still s [] h
        by_round (some r) = by_number r (eqb m.election r.election) (eqb m.round r.number)

    request_silent : (request : Request) → Silent x (on_request me m request s)
    unfolding on_request
    request_silent request = go (may_accept m.election s.stored) (accepting m.bucket m.election m.sender request s.stored)
      where
        go : (t : Bool) (st : Stored) → Silent x (elim t [
          | false ↦ reaction s (Leader.reply_to me m (refusing request) ∷ []) []
          | true ↦ Leader.replying (step_down (with_stored s st)) (Leader.reply_to me m (acknowledging m.bucket request st))
        ])
        go false st = still s _ h
        go true st = step_down_silent (with_stored s st) _ h

    vote_silent : Silent x (on_please_vote me m s)
    unfolding on_please_vote
    vote_silent = step_down_silent (with_stored s _) _ h

    handle_silent : Silent x (handle n me m s)
    unfolding handle
    handle_silent = go m.body
      where
        go : (body : Body) → Silent x (elim body as (λ _. Reaction) [
          | please_vote ↦ on_please_vote me m s
          | ack_vote ↦ on_ack_vote n m.sender m.election s
          | nack_vote ↦ no_reaction s
          | replica_write c ↦ on_request me m (writing c) s
          | ack_write ↦ on_reply n me m acknowledged fresh_copy s
          | nack_write ↦ on_reply n me m refused fresh_copy s
          | replica_read ↦ on_request me m reading s
          | ack_read c ↦ on_reply n me m acknowledged c s
          | nack_read ↦ on_reply n me m refused fresh_copy s
        ])
        go please_vote = vote_silent
        go ack_vote = ackvote_silent n m.sender m.election s h
        go nack_vote = still s [] h
        go (replica_write c) = request_silent (writing c)
        go ack_write = reply_silent acknowledged fresh_copy
        go nack_write = reply_silent refused fresh_copy
        go replica_read = request_silent reading
        go (ack_read c) = reply_silent acknowledged c
        go nack_read = reply_silent refused fresh_copy

  -- ---- lines: number x was taken, and no server that runs has a call of it open

  record Closed (c : Cluster) : Type 0 where
    taken : x ≤ c.calls
    running : (p : ℕ) → stopped_at c p ≡ false → Without x (server_at c p)

  -- that is so after a line, which does not answer x
  record Passes (w : Work) : Type 0 where
    closed : Closed w.cluster
    answers : x ∈ numbers_of w.answers → ⊥

  module _ (c : Cluster) (h : Closed c) where
    -- only server s takes a step
    one_steps : (s : ℕ) (t : Server) → (t.stopped ≡ false → Without x t) → (p : ℕ) → (get_or (set c.servers s t) p (fresh_server 0 0)).stopped ≡ false → Without x (get_or (set c.servers s t) p (fresh_server 0 0))
    one_steps s t k p = set_either (λ (u : Server). u.stopped ≡ false → Without x u) c.servers s p t (fresh_server 0 0) (h.running p) (λ e. k)

    step_passes : (s : ℕ) (r : Reaction) → Silent x r → Passes (by_line c s c.calls r)
    step_passes s r k = record { closed = record { taken = h.taken; running = one_steps s r.server (λ e. k.server) }; answers = k.answers }

    -- a server stops, or comes back with no call open
    stop_or_start_passes : (s : ℕ) (t : Server) → (t.stopped ≡ false → Without x t) → Passes (by_line c s c.calls (reaction t [] []))
    stop_or_start_passes s t k = record { closed = record { taken = h.taken; running = one_steps s t k }; answers = λ m. none_in m }

    delivery_passes : (m : Message) (kept : List Message) (copied : ℕ) → Passes (delivery c m kept copied)
    unfolding delivery
    delivery_passes m kept copied = go (stopped_at c m.receiver) refl
      where
        go : (t : Bool) → stopped_at c m.receiver ≡ t → Passes (elim t [
          | true ↦ lost_message c kept copied
          | false ↦ delivered_to c m kept copied (handle (length c.servers) m.receiver m (server_at c m.receiver))
        ])
        go true e = record { closed = record { taken = h.taken; running = h.running }; answers = λ m. none_in m }
        go false e =
            let k = handle_silent (length c.servers) m.receiver m (server_at c m.receiver) (h.running m.receiver e) in
            record { closed = record { taken = h.taken; running = one_steps m.receiver _ (λ e. k.server) }; answers = k.answers }

    work_passes : (l : Line) → All (λ y. y.applies ≡ false) (conditions c l) → Passes (work c l)
    unfolding conditions_up_to work
    work_passes (cluster n b) (cons e nil) = clash cc
    work_passes (elect s) (cons e (cons f (cons g i))) = step_passes s _ (elect_silent (length c.servers) s (server_at c s) (h.running s g))
    work_passes (call s w) (cons e (cons f (cons g (cons i j)))) =
        let k = begin_call_silent (length c.servers) s (bucket_for c.buckets w) (c.calls + 1) (λ y. omega (arith, h.taken)) w (server_at c s) (h.running s i) in
        record { closed = record { taken = omega (arith, h.taken); running = one_steps s _ (λ e. k.server) }; answers = k.answers }
    work_passes (deliver i) j = delivery_passes (message_at c i) (drop_at i c.messages) 0
    work_passes (copy i) j = delivery_passes (message_at c i) c.messages 1
    work_passes (lose i) j = record { closed = record { taken = h.taken; running = h.running }; answers = λ m. none_in m }
    work_passes (timeout s b) (cons e (cons f (cons g i))) = step_passes s _ (cease_silent (server_at c s) (h.running s g))
    work_passes (stop s) j = stop_or_start_passes s _ (λ e. clash cc)
    work_passes (cut i k) j = record { closed = record { taken = h.taken; running = one_steps (message_at c i).receiver _ (λ e. clash cc) }; answers = λ m. none_in m }
    work_passes (start s) j = stop_or_start_passes s _ (λ e. start_without (server_at c s))

  -- ---- lists of lines

  abbrev ClosedIn : State → Type 0
  ClosedIn s = (c : Cluster) × (s.cluster ≡ some c) × Closed c

  -- a line prints no answer to call x
  abbrev Unanswered : Outcome → Type 0
  Unanswered (refusal r) = Unit {0}
  Unanswered (printed out) = x ∈ numbers_of out → ⊥

  line_passes : (s : State) (o : Option Line) (y : LineResult) → ComesOut s o y → ClosedIn s → ClosedIn y.state × Unanswered y.outcome
  line_passes s o y (refused_by_lem r low high) h = (h, tt)
  line_passes s o y (founded n b i u v e) (c, f, h) = clash cc
  line_passes s o y (took c l i e f room) (d, g, h) =
      let same : d ≡ c = cc in
      let k = work_passes c (subst Closed same h) l (none_applies (conditions c l) f) in
      ((_, refl, k.closed), k.answers)

  line_unanswered : (line : ℕ) (o : Outcome) → Unanswered o → (os : List Outcome) (e : End) → e.number ≡ x → e ∈ ends_from line (o ∷ os) → e ∈ ends_from (line + 1) os
  unfolding ends_from
  line_unanswered line (refusal r) h os e i m = m
  line_unanswered line (printed out) h os e i m =
      elim (Memᴰ.append_cases (map (λ a. record { number = a.call; result = a.result; line = line }) out) m) [
        | inl k ↦
            let (a, j, f) = Memᴰ.of_map (λ a. record { number = a.call; result = a.result; line = line }) out k in
            absurd (h (subst (λ y. y ∈ numbers_of out) (ap (λ (y : End). y.number) f ∙ i) (Memᴰ.map (λ (a : Answer). a.call) j)))
        | inr k ↦ k
      ]

  lines_unanswered : (s : State) (ls : List (List ℕ)) → ClosedIn s → (line : ℕ) (e : End) → e ∈ ends_from line (outcomes s ls) → e.number ≡ x → ⊥
  unfolding outcomes_up_to ends_from
  lines_unanswered s [] h line e m i = none_in m
  lines_unanswered s (l ∷ ls) h line e m i =
      let (k, u) = line_passes s (parse l) (step s l) (comes_out max_election s l) h in
      lines_unanswered (step s l).state ls k (line + 1) e (line_unanswered line (step s l).outcome u (outcomes (step s l).state ls) e i m) i

-- what a script prints is printed by its first part or after it
outcomes_both : (s : State) (ls ms : List (List ℕ)) → outcomes s (ls ++ ms) ≡ outcomes s ls ++ outcomes (state_after s ls) ms
unfolding outcomes_up_to state_after_up_to
outcomes_both s [] ms = refl
outcomes_both s (l ∷ ls) ms = ap (λ os. (step s l).outcome ∷ os) (outcomes_both (step s l).state ls ms)

ends_either : (line : ℕ) (os ps : List Outcome) (e : End) → e ∈ ends_from line (os ++ ps) → (e ∈ ends_from line os) ⊎ ((k : ℕ) × (e ∈ ends_from k ps))
unfolding ends_from
ends_either line [] ps e m = inr (line, m)
ends_either line (refusal r ∷ os) ps e m = ends_either (line + 1) os ps e m
ends_either line (printed out ∷ os) ps e m =
    let here : List End = map (λ a. record { number = a.call; result = a.result; line = line }) out in
    elim (Memᴰ.append_cases here m) [
      | inl k ↦ inl (Memᴰ.append_left _ k)
      | inr k ↦ elim (ends_either (line + 1) os ps e k) [ inl j ↦ inl (Memᴰ.append_right here j) | inr j ↦ inr j ]
    ]

-- ---- scripts

-- a slot in which no call of number x is found
other_if : (x : ℕ) (o : Option Call) → ((c : Call) → o ≡ some c → c.number ≢ x) → Other x o
other_if x none h = tt
other_if x (some c) h = h c refl

-- where a call is open at a stopped server, no running server has a call of its number open: a call is taken once, at one server
stopped_closed : (now count buckets : ℕ) (o : Option Cluster) (log : Log) → RunOk now o count buckets log → (s b : ℕ) (k : Call) → call_at (server_of o s).volatile b ≡ some k
    → (server_of o s).stopped ≡ true → (c : Cluster) × (o ≡ some c) × Closed k.number c
unfolding fresh_server
stopped_closed now count buckets none log h s b k e f = clash cc
stopped_closed now count buckets (some c) log h s b k e f = (
  c,
  refl,
  record {
    taken = h.0.facts.time.numbers _ mine.begun;
    running = λ p g j. other_if k.number (call_at (server_at c p).volatile j) (λ d i same.
        let there = open_call now count buckets (some c) log h p j d i in
        let here : p ≡ s = ap (λ y. y.server) (h.0.facts.calls.begun_once _ _ there.begun mine.begun same) in
        clash cc);
  },
)
  where
    mine : CallOk log s b k
    mine = open_call now count buckets (some c) log h s b k e

-- a call that is open at a stopped server has not been answered, and is not answered by any line that follows
pub stopped_never_answers : (ls ms : List (List ℕ)) (s b : ℕ) (k : Call)
    → call_at (server_in (state_after initial_state ls) s).volatile b ≡ some k
    → (server_in (state_after initial_state ls) s).stopped ≡ true
    → (e : End) → e ∈ ends (ls ++ ms) → e.number ≡ k.number → ⊥
stopped_never_answers ls ms s b k there stopped e m i =
    let h = script_leaves ls in
    elim (ends_either 1 (outcomes initial_state ls) (outcomes (reached ls) ms) e (subst (λ os. e ∈ ends_from 1 os) (outcomes_both initial_state ls ms) m)) [
      | inl before ↦
          let (z, j, f) = Memᴰ.of_map end_of h.log.ends (h.same.ended e before) in
          (open_call h.now h.count h.buckets (reached ls).cluster h.log h.agrees s b k there).unended z j (ap (λ (y : End). y.number) f ∙ i)
      | inr (line, later) ↦
          let closed = stopped_closed h.now h.count h.buckets (reached ls).cluster h.log h.agrees s b k there stopped in
          lines_unanswered k.number (reached ls) ms closed line e later i
    ]

-- a start that is not refused finds its server stopped
stopped_if : (t : Bool) → not t ≡ false → t ≡ true
stopped_if true e = refl
stopped_if false e = clash cc

start_needs : (c : Cluster) (p : ℕ) → All (λ y. y.applies ≡ false) (conditions c (start p)) → stopped_at c p ≡ true
unfolding conditions_up_to
start_needs c p (cons e (cons f (cons g nil))) = stopped_if (stopped_at c p) g

start_stopped : (s : State) (o : Option Line) (y : LineResult) (p : ℕ) → ComesOut s o y → o ≡ some (start p) → y.outcome ≡ printed [] → (server_in s p).stopped ≡ true
start_stopped s o y p (refused_by_lem r low high) e f = clash cc
start_stopped s o y p (founded n b i u v g) e f = clash cc
start_stopped s o y p (took c l i g h room) e f =
    let same : l ≡ start p = cc in
    rw g (start_needs c p (none_applies (conditions c (start p)) (subst (λ z. first_of (conditions c z) ≡ none) same h)))

-- a call that was open at a server when it was started is answered in no continuation, nor was it before
pub never_answered : (ls ms : List (List ℕ)) (l : List ℕ) (s b : ℕ) (k : Call)
    → parse l ≡ some (start s)
    → call_at (server_in (state_after initial_state ls) s).volatile b ≡ some k
    → (step (state_after initial_state ls) l).outcome ≡ printed []
    → (e : End) → e ∈ ends (ls ++ (l ∷ ms)) → e.number ≡ k.number → ⊥
never_answered ls ms l s b k e there f =
    stopped_never_answers ls (l ∷ ms) s b k there (start_stopped (reached ls) (parse l) (step (reached ls) l) s (comes_out max_election (reached ls) l) e f)
