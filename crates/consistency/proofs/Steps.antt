-- Every accepted line keeps the cluster in agreement with a log that grows by what the line began and printed.
use mathlib.Core.Path.{◌≡◌, refl, ◌∙◌}
use mathlib.Core.List.Memᴰ
use mathlib.Core.List.{List, [], ◌∷◌, ◌++◌}
use mathlib.Core.Bool.{Bool, true, false, not}
use mathlib.Core.Option.{Option, none, some}
use Prim.Native.Nat.{ℕ, zero, suc, ◌+◌, ◌<◌}
use native.Mathlib.Omega.{arith}
use native.Mathlib.Numerals.{add-one}
use lib.ListN.{length, get_or, take, drop}
use Rattle.model.specs.Calls.{Words, bucket_for}
use Rattle.model.specs.Cluster.{Role, follower, candidate, leading, Message, Cluster, Call, call_at}
use Rattle.model.specs.Leader.{Reaction, handle}
use Rattle.model.specs.Lines.{Line, cluster, elect, call, deliver, copy, lose, timeout, stop, cut, start, Tally, conditions, conditions_up_to, server_at, message_at, drop_at, stopped_at, is_leading, present, by_line, lost_message, delivered_to, delivery, work}
use Rattle.history.specs.Members.{◌∈◌}
use Rattle.history.proofs.MemberLaws.{none_in, each_append}
use Rattle.limits.specs.Lists.{All, nil, cons}
use Rattle.limits.proofs.Lists.{all_at}
use Rattle.limits.proofs.Counting.{message_there}
use Rattle.limits.specs.Stands.{Stands}
use Rattle.limits.proofs.Always.{either_false, server_there, bucket_less}
use Rattle.consistency.specs.Statement.{Distinct}
use Rattle.consistency.proofs.Log.{Begun, Ended, Log, Grows, ◌⊆◌}
use Rattle.consistency.proofs.Invariant.{ServerOk, running}
use Rattle.consistency.proofs.Growth.{grows_refl, adds_refl, adds_trans}
use Rattle.consistency.proofs.Acts.{ends_of, KeptAny, kept_any}
use Rattle.consistency.proofs.Added.{adds_begun}
use Rattle.consistency.proofs.Cutting.{stop_kept, start_kept, cut_kept}
use Rattle.consistency.proofs.Ceasing.{cease_kept, as_unsettled}
use Rattle.consistency.proofs.Electing.{elect_kept}
use Rattle.consistency.proofs.Beginning.{begin_kept}
use Rattle.consistency.proofs.Handling.{handle_kept}
use Rattle.consistency.proofs.Good.{Good, stepped_good}
use Rattle.consistency.proofs.Onward.{going, cease_goes, begin_call_moves}
use Rattle.consistency.proofs.OnwardSteps.{elect_goes, handle_goes}
use Rattle.consistency.proofs.Once.{numbers_of, answers_once}

-- the call that a line begins
unfoldable pub begun_by : ℕ → Cluster → Line → List Begun
begun_by now c (cluster n b) = []
begun_by now c (elect s) = []
begun_by now c (call s w) = record { number = c.calls + 1; server = s; bucket = bucket_for c.buckets w; words = w; line = now } ∷ []
begun_by now c (deliver i) = []
begun_by now c (copy i) = []
begun_by now c (lose i) = []
begun_by now c (timeout s b) = []
begun_by now c (stop s) = []
begun_by now c (cut i k) = []
begun_by now c (start s) = []

pub record LineGood (now : ℕ) (c : Cluster) (log : Log) (l : Line) : Type 0 where
  pub next : Log
  pub good : Good now (work c l).cluster next
  pub grows : Grows log next
  pub once : Distinct (numbers_of (work c l).answers)
  pub begins : next.begins ≡ begun_by now c l ++ log.begins
  pub ends : (x : Ended) → (x ∈ next.ends → x ∈ (ends_of now (work c l).answers ++ log.ends)) × (x ∈ (ends_of now (work c l).answers ++ log.ends) → x ∈ next.ends)

-- ---- what the tests of a line tell

pub leads_if : (r : Role) → not (is_leading r) ≡ false → r ≡ leading
unfolding is_leading
leads_if follower e = cc
leads_if candidate e = cc
leads_if leading e = refl

free_if : (o : Option Call) → present o ≡ false → o ≡ none
unfolding present
free_if none e = refl
free_if (some c) e = cc

message_in_lem : (l : List Message) (i : ℕ) (d : Message) → i < length l → get_or l i d ∈ l
message_in_lem [] i d h = absurd (omega arith)
message_in_lem (m ∷ l) zero d h = Memᴰ.head refl
message_in_lem (m ∷ l) (suc i) d h = Memᴰ.tail (message_in_lem l i d (omega arith))

take_sub : (n : ℕ) (l : List Message) → take n l ⊆ l
take_sub zero l m i = none_in i
take_sub (suc n) [] m i = none_in i
take_sub (suc n) (x ∷ l) m (Memᴰ.head e) = Memᴰ.head e
take_sub (suc n) (x ∷ l) m (Memᴰ.tail k) = Memᴰ.tail (take_sub n l m k)

drop_sub : (n : ℕ) (l : List Message) → drop n l ⊆ l
drop_sub zero l m i = i
drop_sub (suc n) [] m i = i
drop_sub (suc n) (x ∷ l) m i = Memᴰ.tail (drop_sub n l m i)

dropped_sub : (i : ℕ) (l : List Message) → drop_at i l ⊆ l
dropped_sub i l = each_append (take i l) (take_sub i l) (drop_sub (i + 1) l)

delivery_live : (c : Cluster) (m : Message) (still : List Message) (copied : ℕ) → stopped_at c m.receiver ≡ false
    → delivery c m still copied ≡ delivered_to c m still copied (handle (length c.servers) m.receiver m (server_at c m.receiver))
unfolding delivery
delivery_live c m still copied e = rw (delivery, e)

delivery_stopped : (c : Cluster) (m : Message) (still : List Message) (copied : ℕ) → stopped_at c m.receiver ≡ true → delivery c m still copied ≡ lost_message c still copied
unfolding delivery
delivery_stopped c m still copied e = rw (delivery, e)

-- ---- the lines

module _ {now : ℕ} {c : Cluster} {log : Log} {t : Tally} (stands : Stands c t) (good : Good now c log) where
  -- a step of server s that the line brings about
  by_line_lem : (s : ℕ) → s < length c.servers → {r : Reaction} (kept : KeptAny (length c.servers) c.buckets now c.calls s log r)
      → Good now (by_line c s c.calls r).cluster kept.next
  by_line_lem s h kept = stepped_good good s h (adds_refl s log) kept c.messages (λ m i. i)

  -- a server that runs
  runs : (s : ℕ) → s < length c.servers → stopped_at c s ≡ false → ServerOk (length c.servers) c.buckets log s (server_at c s)
  runs s h e = running (good.servers s h) e

  elect_good : (s : ℕ) → s < length c.servers → stopped_at c s ≡ false → LineGood now c log (elect s)
  unfolding work begun_by
  elect_good s h e =
      let k = kept_any (elect_kept (length c.servers) c.buckets now c.calls s log good.facts (server_at c s) (runs s h e)) in
      let g = elect_goes (length c.servers) s (server_at c s) in
      record { next = k.next; good = by_line_lem s h k; grows = k.adds.grows; once = answers_once good.facts (runs s h e) g; begins = k.begins; ends = k.ends }

  timeout_good : (s b : ℕ) → s < length c.servers → stopped_at c s ≡ false → LineGood now c log (timeout s b)
  unfolding work begun_by
  timeout_good s b h e =
      let k = kept_any (cease_kept (length c.servers) c.buckets now c.calls s log good.facts (server_at c s) (as_unsettled (runs s h e))) in
      record { next = k.next; good = by_line_lem s h k; grows = k.adds.grows; once = answers_once good.facts (runs s h e) (cease_goes (server_at c s)); begins = k.begins; ends = k.ends }

  stop_good : (s : ℕ) → s < length c.servers → LineGood now c log (stop s)
  unfolding work begun_by
  stop_good s h =
      let k = stop_kept (length c.servers) c.buckets now c.calls s log good.facts (server_at c s) (good.servers s h) in
      record { next = k.next; good = by_line_lem s h k; grows = k.adds.grows; once = tt; begins = k.begins; ends = k.ends }

  start_good : (s : ℕ) → s < length c.servers → LineGood now c log (start s)
  unfolding work begun_by
  start_good s h =
      let k = start_kept (length c.servers) c.buckets now c.calls s log good.facts (server_at c s) (good.servers s h) in
      record { next = k.next; good = by_line_lem s h k; grows = k.adds.grows; once = tt; begins = k.begins; ends = k.ends }

  -- a message that is cut
  cut_good : (i k : ℕ) → message_at c i ∈ c.messages → (message_at c i).receiver < length c.servers → LineGood now c log (cut i k)
  unfolding work begun_by
  cut_good i k there h =
      let m = message_at c i in
      let x = cut_kept (length c.servers) c.buckets now c.calls m.receiver log good.facts (server_at c m.receiver) (good.servers m.receiver h) m (good.messages m there) k in
      record {
        next = x.next;
        good = stepped_good good m.receiver h (adds_refl m.receiver log) x (drop_at i c.messages) (dropped_sub i c.messages);
        grows = x.adds.grows;
        once = tt;
        begins = x.begins;
        ends = x.ends;
      }

  call_good : (s : ℕ) (w : Words) → s < length c.servers → stopped_at c s ≡ false → bucket_for c.buckets w < c.buckets
      → (server_at c s).volatile.role ≡ leading → call_at (server_at c s).volatile (bucket_for c.buckets w) ≡ none → LineGood now c log (call s w)
  unfolding work begun_by
  call_good s w h e inside leads free =
      let b = bucket_for c.buckets w in
      let k = kept_any (begin_kept (length c.servers) c.buckets now c.calls s b good.facts (runs s h e) leads inside free (c.calls + 1) (add-one c.calls) w) in
      let g = going (begin_call_moves (length c.servers) s b (c.calls + 1) w (server_at c s)) in
      record {
        next = k.next;
        good = stepped_good good s h (adds_begun log s _) k c.messages (λ m i. i);
        grows = (adds_trans (adds_begun log s _) k.adds).grows;
        once = answers_once good.facts (runs s h e) g;
        begins = k.begins;
        ends = k.ends;
      }

  -- a message that goes nowhere
  lost_good : (l : Line) (still : List Message) (copied : ℕ) → still ⊆ c.messages → work c l ≡ lost_message c still copied → begun_by now c l ≡ [] → LineGood now c log l
  lost_good l still copied sub e f =
      record {
        next = log;
        good =
            rw e
            (record { facts = good.facts; servers = good.servers; messages = λ m i. good.messages m (sub m i) });
        grows = grows_refl log;
        once = rw e tt;
        begins = rw f;
        ends = λ x. rw e (λ m. m, λ m. m);
      }

  -- a message that is delivered to its server
  delivered_good : (l : Line) (m : Message) (still : List Message) (copied : ℕ) → m ∈ c.messages → m.receiver < length c.servers → still ⊆ c.messages
      → work c l ≡ delivery c m still copied → begun_by now c l ≡ [] → LineGood now c log l
  delivered_good l m still copied there h sub e f = go (stopped_at c m.receiver) refl
    where
      go : (t : Bool) → stopped_at c m.receiver ≡ t → LineGood now c log l
      go true i = lost_good l still copied sub (e ∙ delivery_stopped c m still copied i) f
      go false i =
          let k = kept_any (handle_kept (length c.servers) c.buckets now c.calls good.facts m (runs m.receiver h i) (good.messages m there)) in
          let g : work c l ≡ delivered_to c m still copied _ = e ∙ delivery_live c m still copied i in
          let moves = handle_goes (length c.servers) m.receiver m (server_at c m.receiver) in
          record {
            next = k.next;
            good = rw g (stepped_good good m.receiver h (adds_refl m.receiver log) k still sub);
            grows = k.adds.grows;
            once = rw g (answers_once good.facts (runs m.receiver h i) moves);
            begins = rw f k.begins;
            ends = rw g k.ends;
          }

  at_place : (i : ℕ) → i < length c.messages → (message_at c i ∈ c.messages) × ((message_at c i).receiver < length c.servers)
  at_place i h =
      let w = stands.within in
      let r : (message_at c i).receiver < stands.servers = (all_at i _ h w.messages).receiver in
      (message_in_lem c.messages i _ h, omega (arith, w.size))

  pub line_good : (l : Line) → All (λ x. x.applies ≡ false) (conditions c l) → LineGood now c log l
  unfolding conditions_up_to work begun_by
  line_good (cluster x y) (cons p nil) = let z : ◌≡◌ {A = ℕ} 0 1 = cc in absurd (omega arith)
  line_good (elect s) (cons e (cons f (cons g h))) = elect_good s (server_there c s e) g
  line_good (call s w) (cons e (cons f (cons g (cons h (cons i (cons j nil)))))) =
      let (x, y) = either_false _ _ e in
      call_good s w (server_there c s x) h (bucket_less c w (omega (arith, stands.within.buckets, stands.some_buckets)) y) (leads_if _ i) (free_if _ j)
  line_good (deliver i) (cons e (cons f nil)) =
      let (there, h) = at_place i (message_there c i f) in
      delivered_good (deliver i) (message_at c i) (drop_at i c.messages) 0 there h (dropped_sub i c.messages) refl refl
  line_good (copy i) (cons e (cons f nil)) =
      let (there, h) = at_place i (message_there c i f) in
      delivered_good (copy i) (message_at c i) c.messages 1 there h (λ m k. k) refl refl
  line_good (lose i) h = lost_good (lose i) (drop_at i c.messages) 0 (dropped_sub i c.messages) refl refl
  line_good (timeout s b) (cons e (cons f (cons g h))) = timeout_good s b (server_there c s (either_false _ _ e).0) g
  line_good (stop s) (cons e h) = stop_good s (server_there c s e)
  line_good (cut i k) (cons e (cons f h)) = let (there, r) = at_place i (message_there c i f) in cut_good i k there r
  line_good (start s) (cons e h) = start_good s (server_there c s e)
