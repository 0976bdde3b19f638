-- A move carried out is what the definitions make of its reaction; where there are too few places for its messages, the line is refused.
use Rattle.std.proofs.Common.{◌≡◌, ℕ, ◌+◌, ◌<◌, ◌≤◌, true, false, leb, List, ◌++◌, length, sym, refl, ap, ◌∙◌, subst, arith, length-append, leb-false, leb-true}
use borrow.Author.Tests.{lt-leb}
use Rattle.entries.specs.Entries.{Entry}
use Rattle.entries.specs.Decoded.{table_in, value_bytes}
use Rattle.model.specs.Measures.{max_messages}
use Rattle.model.specs.Cluster as cluster
use Rattle.model.specs.Lines as lines
use Rattle.server.specs.declared.Effect.{Effect}
use Rattle.memory.specs.declared.Counts.{Counts}
use Rattle.memory.specs.Layout.{slot_of, counts_at, place_at}
use Rattle.messages.proofs.MessageLaws.{place_low}
use Rattle.refusals.specs.Refusals.{send_count, places_left}
use Rattle.moves.specs.declared.Move.{Move}
use Rattle.moves.specs.Reactions.{Tables, asked_in, sends_in}
use Rattle.views.specs.Memory.{Memory, Sized, servers_at, cluster_at}
use Rattle.views.specs.Changes.{moved, answered}
use Rattle.views.specs.Queue.{Sound, flight_in}
use Rattle.views.proofs.Contents.{tables_at, working_after, copies_after}
use Rattle.views.proofs.Servers.{moved_servers, moved_sized}
use Rattle.views.proofs.Queue.{length_flight}
use Rattle.views.proofs.Sends.{Added, sent_flight_lem, length_sends}
use Rattle.views.proofs.Answers.{Holds, answered_means}
use Rattle.plans.specs.declared.Step.{Step}
use Rattle.runs.specs.declared.Report.{Report}
use Rattle.runs.specs.Runs.{left_flight, moved_at, sent_flight, carried_run}
use Rattle.runs.specs.Meaning.{state_in}
use Rattle.runs.proofs.Accepting.{Ready, Possible, kept_messages, work_of, reaction_of, CarriesOut, LacksRoom}
use Rattle.runs.proofs.Standing.{measured, Does, accepts_line, lacks_places}
use Rattle.runs.proofs.Lost.{left_sound, left_messages, left_count, next_cluster, servers_beside}

module _ (m : Memory) (l : List ℕ) (t : lines.Tally) (x : Step) (v : Move) (f : Effect) (ready : Ready m l t) (p : Possible m (counts_at m.counts) x v f) where
  abbrev c : Counts
  c = counts_at m.counts

  abbrev k : ℕ
  k = slot_of x.server x.bucket

  -- the place of the message handed over
  abbrev place : ℕ
  place = place_at m.queue x.index

  low : place < 64
  low = place_low m.queue x.index

  abbrev made : List Entry
  made = table_in f.table

  abbrev tables : Tables
  tables = tables_at m k place made

  abbrev sends : List cluster.Message
  sends = sends_in c.servers x.server x.bucket (asked_in x.asked) v tables

  abbrev keeps : List cluster.Message
  keeps = kept_messages x.removes x.index (cluster_at m).messages

  slot : k < 56
  slot = omega (arith, p.server, p.bucket, (measured ready).servers, (measured ready).buckets)

  sized_moved : Sized (moved_at m c x v made)
  sized_moved =
      moved_sized m c.servers c.buckets x.server x.bucket place v made
      ready.sized (measured ready).servers p.server (measured ready).buckets p.bucket low p.whole p.form

  servers_moved : servers_at c.servers c.buckets (moved_at m c x v made) ≡ (work_of m x (reaction_of m c x v f)).cluster.servers
  servers_moved =
      moved_servers m c.servers c.buckets x.server x.bucket place v made
      ready.sized (measured ready).servers p.server (measured ready).buckets p.bucket low p.whole p.form

  answers_hold : Holds (value_bytes f.value) made (answered m.slots c.buckets x.server v l) (reaction_of m c x v f).answers 8
  answers_hold = answered_means c.servers c.buckets x.server m v l (value_bytes f.value) made ready.answers (measured ready).buckets

  left : Sound (left_flight m c x)
  left = left_sound m c x ready.sized ready.ordered (measured ready).messages p.there

  left_are : flight_in (left_flight m c x) ≡ keeps
  left_are = left_messages m c x ready.sized ready.ordered (measured ready).messages p.there

  length_sent : length sends ≡ send_count c.servers v.sends
  length_sent = length_sends c.servers x.server x.bucket (asked_in x.asked) v tables p.server

  -- ---- where there are places

  module _ (room : places_left c x.removes v.sends ≡ true) where
    places : (left_flight m c x).count + send_count c.servers v.sends ≤ 64
    places = rw (left_count m c x) (leb-true _ _ room)

    added : Added (left_flight m c x) (sent_flight m c x v made) sends
    unfolding moved
    added =
        let working = working_after m ready.sized k place slot low v made p.form in
        let copies = copies_after m ready.sized k place slot low v made p.form in
        sent_flight_lem c.servers x.server x.bucket k x.asked v tables (moved_at m c x v made).working (moved_at m c x v made).copies (left_flight m c x)
        left p.server slot sized_moved.working sized_moved.copies (sym working.there) (sym copies.there) places

    sent_are : flight_in (sent_flight m c x v made) ≡ keeps ++ sends
    sent_are = added.flight ∙ ap (λ (r : List cluster.Message). r ++ sends) left_are

    carried_servers : servers_at c.servers c.buckets (carried_run m l c x v made f).memory ≡ (work_of m x (reaction_of m c x v f)).cluster.servers
    unfolding carried_run moved
    carried_servers = servers_beside c.servers c.buckets (moved_at m c x v made) _ _ _ ∙ servers_moved

    abbrev report : Report
    report =
        record {
          effect = f;
          answers = (answered m.slots c.buckets x.server v l).count;
          sent = send_count c.servers v.sends;
          copied = x.copied;
          delivered = x.delivered;
          lost = x.lost;
          messages = (sent_flight m c x v made).count;
        }

    does : Does (work_of m x (reaction_of m c x v f)) (carried_run m l c x v made f).memory (carried_run m l c x v made f).answers report
    unfolding carried_run
    does =
        record {
          cluster =
              next_cluster m (carried_run m l c x v made f).memory c (sent_flight m c x v made).count x.calls
              ready.sized.counts (measured ready) ready.stands.accepted added.sound.count refl
              ∙ rw (carried_servers, sent_are);
          sent = sym length_sent;
          copied = refl;
          delivered = refl;
          lost = refl;
          messages = sym (length_flight (sent_flight m c x v made) added.sound) ∙ ap length sent_are;
          few = added.sound.count;
          answers = answers_hold.held;
        }

  -- ---- where there are too few

  too_many : places_left c x.removes v.sends ≡ false → leb (length (keeps ++ sends)) max_messages ≡ false
  too_many full =
      let over : 64 < (left_flight m c x).count + send_count c.servers v.sends = rw (left_count m c x) (leb-false _ _ full) in
      let stay : length keeps ≡ (left_flight m c x).count = sym (ap length left_are) ∙ length_flight (left_flight m c x) left in
      lt-leb (length (keeps ++ sends)) max_messages (rw (length-append keeps sends, stay, length_sent) over)

carried_accepts : (m : Memory) (l : List ℕ) (t : lines.Tally) (x : Step) (v : Move) (f : Effect) → Ready m l t → Possible m (counts_at m.counts) x v f → CarriesOut m l t (counts_at m.counts) x v f
unfolding carried_run
carried_accepts m l t x v f ready p room = accepts_line (state_in m t) _ _ _ (report m l t x v f ready p room) (does m l t x v f ready p room)

pub carries_out : (m : Memory) (l : List ℕ) (t : lines.Tally) (c : Counts) (x : Step) (v : Move) (f : Effect) → Ready m l t → Possible m c x v f → CarriesOut m l t c x v f
carries_out m l t c x v f ready p =
    subst (λ (c : Counts). Possible m c x v f → CarriesOut m l t c x v f) (sym p.counts)
    (λ p room. carried_accepts m l t x v f ready p room)
    p

pub lacks_room : (m : Memory) (l : List ℕ) (t : lines.Tally) (c : Counts) (x : Step) (v : Move) (f : Effect) → Ready m l t → Possible m c x v f → LacksRoom m t c x v f
lacks_room m l t c x v f ready p =
    subst (λ (c : Counts). Possible m c x v f → LacksRoom m t c x v f) (sym p.counts)
    (λ p full. lacks_places (state_in m t) (work_of m x (reaction_of m (counts_at m.counts) x v f)) (too_many m l t x v f ready p full))
    p
