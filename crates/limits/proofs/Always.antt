-- Every line keeps the measures, so every run does, whatever the greatest election number `top` is: `within_always`.
use mathlib.Core.Path.{◌≡◌, refl, sym, ap, subst, ◌∙◌}
use mathlib.Core.List.{List, [], ◌∷◌}
use mathlib.Core.Bool.{Bool, true, false, not}
use mathlib.Core.Option.{Option, none, some}
use mathlib.Core.Logic.{◌≢◌}
use Prim.Native.Nat.{ℕ, zero, suc, ◌+◌, ◌≤◌, ◌<◌}
use native.Mathlib.Omega.{arith}
use native.Mathlib.Nat.{mod-lt}
use lib.ListN.{length, length-set, length-replicate, get_or-replicate}
use borrow.Author.Tests.{ltb-false, leb-false, eqb-false}
use Rattle.hash.specs.Fnv.{bucket_of}
use Rattle.table.specs.Form.{within}
use Rattle.table.proofs.Fitting.{within_parts}
use Rattle.model.specs.Measures.{max_servers, max_buckets, max_messages, max_accepted}
use Rattle.model.specs.Calls.{Words, get, set, setif, del, keys, bucket_for}
use Rattle.model.specs.Cluster.{Role, follower, Round, Call, Message, Cluster, fresh_server, fresh_cluster, fresh_copy}
use Rattle.model.specs.Leader.{Reaction, larger_number, next_number}
use Rattle.model.proofs.Elections.{eleven_above_the_top}
use Rattle.model.specs.Lines.{Line, cluster, elect, call, deliver, copy, lose, timeout, stop, cut, start, State, initial_state, Tally, first_of, conditions_up_to, either, no_server, no_bucket, no_bucket_for, bad_key, bad_value, bad_words, limit_reached, stopped_at, is_leading, last_number, server_at, drop_at, Work, after_step, by_line, lost_message, delivery, cutting, work, tallied, LineResult}
use Rattle.model.specs.Parse.{parse}
use Rattle.model.specs.Run.{step_up_to, state_after_up_to}
use Rattle.limits.specs.Lists.{All, nil, cons}
use Rattle.limits.specs.Tally.{Tallied}
use Rattle.limits.specs.Measures.{limits_after, KeySized, ValueSized, WordsSized, idle, ServerWithin, MessageWithin, AnswersWithin, endings, ReactionWithin, ClusterWithin}
use Rattle.limits.specs.Stands.{StandsUpTo, MeasuredUpTo, messages_of}
use Rattle.limits.proofs.Lists.{all_head, all_tail, all_imply, all_append, all_take, all_drop, all_set, all_at, all_replicate}
use Rattle.limits.proofs.Refusals.{ComesOutUpTo, refused_by_lem, founded, took, comes_out}
use Rattle.limits.proofs.Counting.{none_applies, message_there, work_counts, nothing_tallied, work_keeps_tally}
use Rattle.limits.proofs.Growing.{one_above_within, next_line, wider, message_grows, server_grows}
use Rattle.limits.proofs.Tables.{fresh_copy_within}
use Rattle.limits.proofs.Rules.{forgotten_within, cut_within, cease_within, elect_within, begin_call_within, handle_within}

-- ---- what the tests of a line tell

pub either_false : (x y : Bool) → either x y ≡ false → (x ≡ false) × (y ≡ false)
unfolding either
either_false false y e = (refl, e)
either_false true y e = let z : ◌≡◌ {A = ℕ} 0 1 = cc in absurd (omega arith)

key_sized : (k : List ℕ) → bad_key k ≡ false → KeySized k
unfolding bad_key
key_sized k e =
    let (x, y) = either_false _ _ e in
    (omega (arith, eqb-false (length k) 0 x), ltb-false _ _ y)

value_sized : (v : Option (List ℕ)) → bad_value v ≡ false → ValueSized v
unfolding bad_value
value_sized none e = tt
value_sized (some v) e = ltb-false _ _ e

words_sized : (w : Words) → bad_words w ≡ false → WordsSized w
unfolding bad_words bad_value
words_sized (get k) e = key_sized k e
words_sized (set k v) e =
    let (x, y) = either_false _ _ e in
    (key_sized k x, value_sized v y)
words_sized (setif k x v) e =
    let (y, r) = either_false _ _ e in
    let (z, u) = either_false _ _ r in
    (key_sized k y, value_sized x z, value_sized v u)
words_sized (del k) e = key_sized k e
words_sized (keys i) e = tt

bucket_of_less : (b : ℕ) (k : List ℕ) → 1 ≤ b → bucket_of b k < b
unfolding bucket_of
bucket_of_less zero k h = absurd (omega arith)
bucket_of_less (suc b) k h = mod-lt _ (omega arith)

pub bucket_less : (c : Cluster) (w : Words) → 1 ≤ c.buckets → no_bucket_for c w ≡ false → bucket_for c.buckets w < c.buckets
unfolding no_bucket_for no_bucket bucket_for
bucket_less c (get k) h e = bucket_of_less c.buckets k h
bucket_less c (set k v) h e = bucket_of_less c.buckets k h
bucket_less c (setif k x v) h e = bucket_of_less c.buckets k h
bucket_less c (del k) h e = bucket_of_less c.buckets k h
bucket_less c (keys i) h e = leb-false _ _ e

pub server_there : (c : Cluster) (s : ℕ) → no_server c s ≡ false → s < length c.servers
unfolding no_server
server_there c s e = leb-false _ _ e

leader_acts : (r : Role) → not (is_leading r) ≡ false → r ≢ follower
unfolding is_leading
leader_acts r e x =
    let y : true ≡ false = rw x at e in
    let z : ◌≡◌ {A = ℕ} 0 1 = cc in
    omega arith

-- ---- one line

-- the cluster after one more line, and the answers
pub record Taken (top n b k : ℕ) (w : Work) : Type 0 where
  pub cluster : ClusterWithin top n b (k + 1) w.cluster
  pub answers : AnswersWithin b (limits_after top (k + 1)) w.answers

module _ (top n b k : ℕ) (c : Cluster) (bLow : 1 ≤ b) (w : ClusterWithin top n b k c) where
  -- messages and servers as they were, under the next line's limits
  kept_messages_lem : {l : List Message} → All (MessageWithin n b (limits_after top k)) l → All (MessageWithin n b (limits_after top (k + 1))) l
  kept_messages_lem m = all_imply (message_grows (next_line top k 0 (omega arith))) m

  kept_servers : All (ServerWithin n b (limits_after top (k + 1)) 0) c.servers
  kept_servers = all_imply (server_grows (next_line top k 0 (omega arith))) w.servers

  server_before : (s : ℕ) → s < n → ServerWithin n b (limits_after top k) 0 (server_at c s)
  server_before s h = all_at s _ (omega (arith, w.size)) w.servers

  -- the server that the line is about, which may make four rounds
  server_at_lem : (s : ℕ) → s < n → ServerWithin n b (limits_after top (k + 1)) 4 (server_at c s)
  server_at_lem s h = server_grows (next_line top k 4 (omega arith)) _ (server_before s h)

  stepped_within : {calls : ℕ} (s : ℕ) (kept : List Message) (r : Reaction) → calls ≤ k + 1 →
      All (MessageWithin n b (limits_after top k)) kept →
      ReactionWithin n b (limits_after top (k + 1)) r → ClusterWithin top n b (k + 1) (after_step c s kept calls r)
  stepped_within s kept r x m y =
      record {
        size = rw length-set w.size;
        buckets = w.buckets;
        accepted = omega (arith, w.accepted);
        calls = x;
        servers = all_set s kept_servers y.server;
        messages = all_append (kept_messages_lem m) y.sends;
      }

  same_calls : c.calls ≤ k + 1
  same_calls = omega (arith, w.calls)

  by_line_taken : {calls : ℕ} (s : ℕ) (r : Reaction) → calls ≤ k + 1 → ReactionWithin n b (limits_after top (k + 1)) r →
      Taken top n b k (by_line c s calls r)
  by_line_taken s r x y = record { cluster = stepped_within s c.messages r x w.messages y; answers = y.answers }

  lost_within : (kept : List Message) (copied : ℕ) → All (MessageWithin n b (limits_after top k)) kept →
      Taken top n b k (lost_message c kept copied)
  lost_within kept copied m =
      record {
        cluster =
            record {
              size = w.size;
              buckets = w.buckets;
              accepted = omega (arith, w.accepted);
              calls = same_calls;
              servers = kept_servers;
              messages = kept_messages_lem m;
            };
        answers = endings {out = []} (omega arith) nil;
      }

  delivery_within : (m : Message) (kept : List Message) (copied : ℕ) → MessageWithin n b (limits_after top k) m →
      All (MessageWithin n b (limits_after top k)) kept → Taken top n b k (delivery c m kept copied)
  unfolding delivery
  delivery_within m kept copied x o = go (stopped_at c m.receiver) refl
    where
      go : (t : Bool) → stopped_at c m.receiver ≡ t → Taken top n b k (delivery c m kept copied)
      go true e = rw (delivery, e) (lost_within kept copied o)
      go false e =
          let g = message_grows (next_line top k 0 (omega arith)) m x in
          let r = handle_within n b (limits_after top (k + 1)) m _ g (server_at_lem m.receiver x.receiver) in
          rw (delivery, e, w.size) (record { cluster = stepped_within m.receiver kept _ same_calls o r; answers = r.answers })

  dropped : (i : ℕ) → All (MessageWithin n b (limits_after top k)) (drop_at i c.messages)
  dropped i = all_append (all_take i w.messages) (all_drop (i + 1) w.messages)

  named : (s : ℕ) → no_server c s ≡ false → s < n
  named s e = omega (arith, server_there c s e, w.size)

  elect_taken : (s : ℕ) → no_server c s ≡ false → last_number top c s ≡ false → Taken top n b k (work c (elect s))
  unfolding work next_number
  elect_taken s e f =
      let st = (server_at c s).stored in
      let old = (server_before s (named s e)).stored in
      let larger : larger_number st ≤ (limits_after top k).elections = omega (arith, old.number, old.vote) in
      let low = ltb-false top (next_number st) (sym (eleven_above_the_top top c s) ∙ f) in
      rw w.size
      (by_line_taken s _ same_calls
      (elect_within n b (limits_after top (k + 1)) s _ (named s e) bLow (one_above_within top k (larger_number st) larger low) (server_at_lem s (named s e))))

  call_taken : (s : ℕ) (x : Words) → no_server c s ≡ false → no_bucket_for c x ≡ false → bad_words x ≡ false →
      not (is_leading (server_at c s).volatile.role) ≡ false → Taken top n b k (work c (call s x))
  unfolding work
  call_taken s x e f g h =
      let more : c.calls + 1 ≤ k + 1 = omega (arith, w.calls) in
      let bucket : bucket_for c.buckets x < b = omega (arith, bucket_less c x (omega (arith, w.buckets)) f, w.buckets) in
      let same_bucket = ap (λ z. bucket_for z x) (sym w.buckets) in
      rw w.size
      (by_line_taken s _ more
      (begin_call_within n b (limits_after top (k + 1)) s _ (named s e) bucket (c.calls + 1) x (omega arith) more (words_sized x g) same_bucket (leader_acts _ h) (server_at_lem s (named s e))))

  timeout_taken : (s i : ℕ) → no_server c s ≡ false → Taken top n b k (work c (timeout s i))
  unfolding work
  timeout_taken s i e = by_line_taken s _ same_calls (cease_within n b (limits_after top (k + 1)) (server_at_lem s (named s e)))

  stop_taken : (s : ℕ) → no_server c s ≡ false → Taken top n b k (work c (stop s))
  unfolding work
  stop_taken s e =
      let y = all_at s _ (server_there c s e) (kept_servers) in
      by_line_taken s _ same_calls
      (record { server = record { stored = y.stored; frame = y.frame; slots = y.slots }; sends = nil; answers = endings {out = []} (omega arith) nil })

  start_taken : (s : ℕ) → no_server c s ≡ false → Taken top n b k (work c (start s))
  unfolding work
  start_taken s e =
      let y = all_at s _ (server_there c s e) (kept_servers) in
      by_line_taken s _ same_calls
      (record { server = forgotten_within n b (limits_after top (k + 1)) y; sends = nil; answers = endings {out = []} (omega arith) nil })

  cut_taken : (m : Message) (kept : List Message) (j : ℕ) → MessageWithin n b (limits_after top k) m →
      All (MessageWithin n b (limits_after top k)) kept → Taken top n b k (cutting c m kept j)
  cut_taken m kept j x o =
      let g = message_grows (next_line top k 0 (omega arith)) m x in
      let there : m.receiver < length c.servers = omega (arith, x.receiver, w.size) in
      let y : ServerWithin n b (limits_after top (k + 1)) 0 (server_at c m.receiver) = all_at m.receiver _ there (kept_servers) in
      let none_told : AnswersWithin b (limits_after top (k + 1)) [] = endings {out = []} (omega arith) nil in
      record {
        cluster =
            stepped_within m.receiver kept _ same_calls o
            (record { server = cut_within n b (limits_after top (k + 1)) j m _ g y; sends = nil; answers = none_told });
        answers = none_told;
      }

  work_within : (l : Line) → All (λ x. x.applies ≡ false) (conditions_up_to top c l) → Taken top n b k (work c l)
  unfolding conditions_up_to work
  work_within (cluster x y) (cons p nil) = let z : ◌≡◌ {A = ℕ} 0 1 = cc in absurd (omega arith)
  work_within (elect s) (cons e (cons f (cons g (cons h nil)))) = elect_taken s e h
  work_within (call s x) (cons e (cons f (cons g (cons h (cons i (cons j nil)))))) =
      let (y, z) = either_false _ _ e in
      call_taken s x y z f i
  work_within (deliver i) (cons e (cons f nil)) = delivery_within _ _ 0 (all_at i _ (message_there c i f) w.messages) (dropped i)
  work_within (copy i) (cons e (cons f nil)) = delivery_within _ _ 1 (all_at i _ (message_there c i f) w.messages) w.messages
  work_within (lose i) (cons e (cons f nil)) = lost_within _ 0 (dropped i)
  work_within (timeout s i) (cons e (cons f (cons g (cons h nil)))) = timeout_taken s i (either_false _ _ e).0
  work_within (stop s) (cons e (cons f (cons g nil))) = stop_taken s e
  work_within (cut i j) (cons e (cons f (cons g nil))) = cut_taken _ _ j (all_at i _ (message_there c i f) w.messages) (dropped i)
  work_within (start s) (cons e (cons f (cons g nil))) = start_taken s e

not_spent : (top : ℕ) (c : Cluster) (l : Line) → All (λ x. x.applies ≡ false) (conditions_up_to top c l) → c.accepted < max_accepted
unfolding conditions_up_to limit_reached
not_spent top c (cluster x y) (cons p nil) = let z : ◌≡◌ {A = ℕ} 0 1 = cc in absurd (omega arith)
not_spent top c (elect s) h = leb-false _ _ (all_head (all_tail h))
not_spent top c (call s x) h = leb-false _ _ (all_head (all_tail (all_tail h)))
not_spent top c (deliver i) h = leb-false _ _ (all_head h)
not_spent top c (copy i) h = leb-false _ _ (all_head h)
not_spent top c (lose i) h = leb-false _ _ (all_head h)
not_spent top c (timeout s i) h = leb-false _ _ (all_head (all_tail h))
not_spent top c (stop s) h = leb-false _ _ (all_head (all_tail h))
not_spent top c (cut i j) h = leb-false _ _ (all_head h)
not_spent top c (start s) h = leb-false _ _ (all_head (all_tail h))

-- a line is taken only where fewer than 1,000,000 were
pub room_for_line : (top : ℕ) (c : Cluster) (l : Line) → first_of (conditions_up_to top c l) ≡ none → c.accepted < max_accepted
room_for_line top c l e = not_spent top c l (none_applies (conditions_up_to top c l) e)

-- ---- every list of lines

cluster_wider : {n b k : ℕ} (top more : ℕ) → top ≤ more → (c : Cluster) → ClusterWithin top n b k c → ClusterWithin more n b k c
cluster_wider {k = k} top more h c w =
    record {
      size = w.size;
      buckets = w.buckets;
      accepted = w.accepted;
      calls = w.calls;
      servers = all_imply (server_grows (wider top more k h)) w.servers;
      messages = all_imply (message_grows (wider top more k h)) w.messages;
    }

pub stands_wider : (top more : ℕ) → top ≤ more → (c : Cluster) (t : Tally) → StandsUpTo top c t → StandsUpTo more c t
stands_wider top more h c t w =
    record {
      servers = w.servers;
      buckets = w.buckets;
      some_servers = w.some_servers;
      few_servers = w.few_servers;
      some_buckets = w.some_buckets;
      few_buckets = w.few_buckets;
      within = cluster_wider top more h c w.within;
      accepted = w.accepted;
      sent = w.sent;
      copied = w.copied;
      tallied = w.tallied;
    }

fresh_server_within : (top n b : ℕ) → 1 ≤ n → ServerWithin n b (limits_after top 0) 0 (fresh_server n b)
unfolding fresh_server
fresh_server_within top n b h =
    record {
      stored = record { number = omega arith; vote = omega arith; leader = omega arith; size = length-replicate b _; copies = all_replicate b fresh_copy (fresh_copy_within _) };
      frame = record { votes = length-replicate n _; rounds = length-replicate b _; calls = length-replicate b _; last_round = omega arith; standing = tt };
      slots = λ i d. rw (get_or-replicate {A = Option Round} b i none none d, get_or-replicate {A = Option Call} b i none none d) idle;
    }

fresh_cluster_within : (top n b : ℕ) → 1 ≤ n → ClusterWithin top n b 0 (fresh_cluster n b)
unfolding fresh_cluster
fresh_cluster_within top n b h =
    record { size = length-replicate n _; buckets = refl; accepted = refl; calls = omega arith; servers = all_replicate n _ (fresh_server_within top n b h); messages = nil }

pub line_taken : (top : ℕ) (c : Cluster) (t : Tally) (l : Line) → (h : StandsUpTo top c t) → first_of (conditions_up_to top c l) ≡ none →
    Taken top h.servers h.buckets c.accepted (work c l)
line_taken top c t l h e =
    work_within top h.servers h.buckets c.accepted c h.some_buckets h.within l (none_applies (conditions_up_to top c l) e)

stands_on : (top : ℕ) (c : Cluster) (t : Tally) (l : Line) → StandsUpTo top c t → first_of (conditions_up_to top c l) ≡ none →
    length (work c l).cluster.messages ≤ max_messages → StandsUpTo top (work c l).cluster (tallied t (work c l))
stands_on top c t l h e room =
    let w = (line_taken top c t l h e).cluster in
    let more : (work c l).cluster.accepted ≡ c.accepted + 1 = w.accepted in
    let counts = work_counts c l in
    let open-line = room_for_line top c l e in
    record {
      servers = h.servers;
      buckets = h.buckets;
      some_servers = h.some_servers;
      few_servers = h.few_servers;
      some_buckets = h.some_buckets;
      few_buckets = h.few_buckets;
      within = rw more w;
      accepted = omega arith;
      sent = omega (arith, h.sent, counts.sent);
      copied = omega (arith, h.copied, counts.copied);
      tallied = work_keeps_tally top c t l e room h.tallied;
    }

founded_stands : (top n b : ℕ) (t : Tally) → within max_servers n ≡ true → within max_buckets b ≡ true → t ≡ initial_state.tally →
    StandsUpTo top (fresh_cluster n b) t
unfolding fresh_cluster
founded_stands top n b t p q z =
    let (low, high) = within_parts max_servers n p in
    let (some-there, few) = within_parts max_buckets b q in
    record {
      servers = n;
      buckets = b;
      some_servers = low;
      few_servers = high;
      some_buckets = some-there;
      few_buckets = few;
      within = fresh_cluster_within top n b low;
      accepted = omega arith;
      sent = omega (arith, ap (λ x. x.sent) z);
      copied = omega (arith, ap (λ x. x.copied) z);
      tallied = nothing_tallied t z;
    }

pub line_keeps_measures : (top : ℕ) (s : State) (o : Option Line) (x : LineResult) → ComesOutUpTo top s o x →
    MeasuredUpTo top s.cluster s.tally → MeasuredUpTo top x.state.cluster x.state.tally
line_keeps_measures top s o x (refused_by_lem r low high) h = h
line_keeps_measures top s o x (founded n b i p q e) h =
    founded_stands top n b s.tally p q (subst (λ o. MeasuredUpTo top o s.tally) e h)
line_keeps_measures top s o x (took c l i e f room) h =
    stands_on top c s.tally l (subst (λ o. MeasuredUpTo top o s.tally) e h) f room

pub measured_on : (top : ℕ) (s : State) (ls : List (List ℕ)) → MeasuredUpTo top s.cluster s.tally →
    MeasuredUpTo top (state_after_up_to top s ls).cluster (state_after_up_to top s ls).tally
unfolding state_after_up_to
measured_on top s [] h = h
measured_on top s (l ∷ ls) h =
    let x = step_up_to top s l in
    measured_on top x.state ls (line_keeps_measures top s (parse l) x (comes_out top s l) h)

pub within_always : (top : ℕ) (ls : List (List ℕ)) →
    MeasuredUpTo top (state_after_up_to top initial_state ls).cluster (state_after_up_to top initial_state ls).tally
within_always top ls = measured_on top initial_state ls refl

-- ---- the tally of every script

measured_tallied : (top : ℕ) (o : Option Cluster) (t : Tally) → MeasuredUpTo top o t → Tallied (messages_of o) t
measured_tallied top none t h = nothing_tallied t h
measured_tallied top (some c) t h = h.tallied

pub tallied_always : (top : ℕ) (ls : List (List ℕ)) →
    Tallied (messages_of (state_after_up_to top initial_state ls).cluster) (state_after_up_to top initial_state ls).tally
tallied_always top ls = let s = state_after_up_to top initial_state ls in measured_tallied top s.cluster s.tally (within_always top ls)

pub balanced : (top : ℕ) (ls : List (List ℕ)) →
    let t = (state_after_up_to top initial_state ls).tally in t.sent + t.copied ≡ t.delivered + t.lost + t.count_in_flight
balanced top ls = (tallied_always top ls).balance

pub in_flight : (top : ℕ) (ls : List (List ℕ)) →
    let s = state_after_up_to top initial_state ls in s.tally.count_in_flight ≡ length (messages_of s.cluster)
in_flight top ls = (tallied_always top ls).flight

pub at_most_64 : (top : ℕ) (ls : List (List ℕ)) → length (messages_of (state_after_up_to top initial_state ls).cluster) ≤ max_messages
at_most_64 top ls = (tallied_always top ls).room
