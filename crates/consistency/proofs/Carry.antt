-- Facts of a log that carry over to a log with more entries, as long as the lists that a fact speaks of for every entry have
-- no new one.
use mathlib.Core.Path.{◌≡◌}
use mathlib.Core.List.Memᴰ
use mathlib.Core.List.{List, ◌∷◌}
use mathlib.Core.Option.{Option}
use Prim.Native.Nat.{ℕ, ◌≤◌}
use Rattle.entries.specs.Entries.{Entry}
use Rattle.model.specs.Cluster.{Version}
use Rattle.history.specs.Members.{◌∈◌}
use Rattle.history.proofs.MemberLaws.{each_cons}
use Rattle.consistency.proofs.Log.{Vote, Win, Write, Accept, Report, Opened, Check, Begun, Ended, Log, ◌⊆◌, Grows}
use Rattle.consistency.proofs.Claims.{Holds, later}
use Rattle.consistency.proofs.Claims
use Rattle.consistency.proofs.Invariant.{Unwritten, VoteFacts, Makes, kept, changed, Origin, Succeeds, recovers, follows, WriteFacts, RoundFacts, EndOk, undone, unsure, by_write, by_check, CallFacts, TimeFacts}
use Rattle.consistency.proofs.Growth.{won_grows, holds_grows, chosen_grows}
use Rattle.consistency.proofs.Acts.{add_vote, add_win, add_write, add_accept, add_report, add_round, add_check, add_begun, add_ended}

-- ---- one entry more

-- a list has what it has, and what it has with one more in front
abbrev pub same : {A : Type 0} {l : List A} → l ⊆ l
same x m = m

abbrev pub more : {A : Type 0} {a : A} {l : List A} → l ⊆ (a ∷ l)
more x m = Memᴰ.tail m

-- what holds of any two of a list, and of each with the new one, both ways, holds of any two with the new one
pub each_two : {A : Type 0} {P : A → A → Type 0} {x : A} {l : List A}
    → P x x → ((a : A) → a ∈ l → P x a × P a x) → ((a b : A) → a ∈ l → b ∈ l → P a b)
    → (a b : A) → a ∈ (x ∷ l) → b ∈ (x ∷ l) → P a b
each_two {P = P} {x} p q r a b m k =
    each_cons {P = λ c. P c b} (each_cons {P = P x} p (λ c i. (q c i).0) b k) (λ c i. each_cons {P = P c} (q c i).1 (λ d. r c d i) b k) a m

-- a log with one entry more has grown
pub grows_vote : {log : Log} (x : Vote) → Grows log (add_vote x log)
grows_vote x = record { votes = more; wins = same; writes = same; accepts = same; reports = same; rounds = same; checks = same; begins = same; ends = same }

pub grows_win : {log : Log} (x : Win) → Grows log (add_win x log)
grows_win x = record { votes = same; wins = more; writes = same; accepts = same; reports = same; rounds = same; checks = same; begins = same; ends = same }

pub grows_write : {log : Log} (x : Write) → Grows log (add_write x log)
grows_write x = record { votes = same; wins = same; writes = more; accepts = same; reports = same; rounds = same; checks = same; begins = same; ends = same }

pub grows_accept : {log : Log} (x : Accept) → Grows log (add_accept x log)
grows_accept x = record { votes = same; wins = same; writes = same; accepts = more; reports = same; rounds = same; checks = same; begins = same; ends = same }

pub grows_report : {log : Log} (x : Report) → Grows log (add_report x log)
grows_report x = record { votes = same; wins = same; writes = same; accepts = same; reports = more; rounds = same; checks = same; begins = same; ends = same }

pub grows_round : {log : Log} (x : Opened) → Grows log (add_round x log)
grows_round x = record { votes = same; wins = same; writes = same; accepts = same; reports = same; rounds = more; checks = same; begins = same; ends = same }

pub grows_check : {log : Log} (x : Check) → Grows log (add_check x log)
grows_check x = record { votes = same; wins = same; writes = same; accepts = same; reports = same; rounds = same; checks = more; begins = same; ends = same }

pub grows_begun : {log : Log} (x : Begun) → Grows log (add_begun x log)
grows_begun x = record { votes = same; wins = same; writes = same; accepts = same; reports = same; rounds = same; checks = same; begins = more; ends = same }

pub grows_ended : {log : Log} (x : Ended) → Grows log (add_ended x log)
grows_ended x = record { votes = same; wins = same; writes = same; accepts = same; reports = same; rounds = same; checks = same; begins = same; ends = more }

-- ---- parts of facts

holds_back : {a b : Log} {k : ℕ} {x : Version} {t : List Entry}
    → ((w : Write) → w ∈ b.writes → w.bucket ≡ k → w.at ≡ x → w ∈ a.writes) → Holds b k x t → Holds a k x t
holds_back s (Claims.Holds.first e f) = Claims.Holds.first e f
holds_back s (later w m e f h) = later w (s w m e f) e f h

-- nothing is later than now if there is nothing new
pub time_stays : {a b : Log} {now taken : ℕ} → b.wins ⊆ a.wins → b.writes ⊆ a.writes → b.rounds ⊆ a.rounds → b.begins ⊆ a.begins → b.ends ⊆ a.ends
    → TimeFacts now taken a → TimeFacts now taken b
time_stays v s r u e f =
    record {
      wins = λ x m. f.wins x (v x m);
      writes = λ x m. f.writes x (s x m);
      rounds = λ x m. f.rounds x (r x m);
      begins = λ x m. f.begins x (u x m);
      ends = λ x m. f.ends x (e x m);
      numbers = λ x m. f.numbers x (u x m);
    }

module _ {a b : Log} (g : Grows a b) where
  makes_grows : {w : Write} {t : List Entry} {c : Option ℕ} → Makes a w t c → Makes b w t c
  makes_grows (kept e) = kept e
  makes_grows (changed x m e f h) = changed x (g.begins x m) e f h

  pub origin_grows : {w : Write}
      → ((x : Write) → x ∈ b.writes → x.bucket ≡ w.bucket → x.at ≡ w.parent → x.line ≤ w.line)
      → Origin a w → Origin b w
  origin_grows older o = record { table = o.table; holds = holds_grows g o.holds; makes = makes_grows o.makes; older = older }

  pub succeeds_grows : {n : ℕ} {w : Write} → Succeeds n a w → Succeeds n b w
  succeeds_grows (recovers c h l m k f) = recovers c h l m k (λ q i. let t = f q i in (t.0, g.reports _ t.1, t.2))
  succeeds_grows (follows e c h) = follows e c h

  -- an end carries over if neither its call nor a checked version gains a write
  pub end_grows : {n : ℕ} {x : Ended}
      → (Unwritten a x.number → Unwritten b x.number)
      → ((c : Check) → c ∈ a.checks → (w : Write) → w ∈ b.writes → w.bucket ≡ c.bucket → w.at ≡ c.at → w ∈ a.writes)
      → EndOk n a x → EndOk n b x
  end_grows u s (undone r k) = undone r (u k)
  end_grows u s (unsure r) = unsure r
  end_grows u s (by_write r w m c k) = by_write r w (g.writes w m) c (chosen_grows g k)
  end_grows u s (by_check c m i l k y j e f o p z) =
      by_check c (g.checks c m) i l (chosen_grows g k) y (g.begins y j) e f o (λ t h. p t (holds_back (s c m) h)) (u z)

  pub end_stays : {n : ℕ} {x : Ended} → b.writes ⊆ a.writes → EndOk n a x → EndOk n b x
  end_stays s = end_grows (λ u w m. u w (s w m)) (λ c m w k i j. s w k)

  -- ---- whole families of facts

  pub votes_stay : {n : ℕ} → b.votes ⊆ a.votes → b.wins ⊆ a.wins → VoteFacts n a → VoteFacts n b
  votes_stay v w f =
      record {
        one_vote = λ x y m k. f.one_vote x y (v x m) (v y k);
        quorate = λ x m. f.quorate x (w x m);
        voted = λ x m q i. g.votes _ (f.voted x (w x m) q i);
      }

  pub writes_stay : {n : ℕ} → b.writes ⊆ a.writes → WriteFacts n a → WriteFacts n b
  writes_stay s f =
      record {
        unique = λ w x m k. f.unique w x (s w m) (s x k);
        positive = λ w m. f.positive w (s w m);
        origin = λ w m. let o = f.origin w (s w m) in origin_grows (λ x k. o.older x (s x k)) o;
        succeeds = λ w m. succeeds_grows (f.succeeds w (s w m));
        won = λ w m. let t = f.won w (s w m) in (t.0, g.wins _ t.1, t.2, t.3);
        once = λ w x m k. f.once w x (s w m) (s x k);
      }

  pub rounds_stay : b.wins ⊆ a.wins → b.writes ⊆ a.writes → b.accepts ⊆ a.accepts → b.reports ⊆ a.reports → b.rounds ⊆ a.rounds
      → RoundFacts a → RoundFacts b
  rounds_stay v s t u r f =
      record {
        won = λ o m. won_grows g (f.won o (r o m));
        unique = λ o p m k. f.unique o p (r o m) (r p k);
        reported = λ x m. let z = f.reported x (u x m) in (z.0, g.rounds _ z.1, z.2, z.3);
        bounded = λ x m. f.bounded x (u x m);
        accepted = λ x m. let z = f.accepted x (t x m) in (z.0, g.writes _ z.1, z.2, z.3);
        promised = λ x y m k. f.promised x y (t x m) (u y k);
        newest = λ o m p w k. f.newest o (r o m) p w (s w k);
        written = λ o m p w k. f.written o (r o m) p w (s w k);
        looks_at = λ o m p. let z = f.looks_at o (r o m) p in (z.0, g.writes _ z.1, z.2, z.3);
        under = λ o m. f.under o (r o m);
        unseated = λ x o w m k j. f.unseated x o w (u x m) (r o k) (v w j);
      }

  pub calls_stay : {n : ℕ} → b.writes ⊆ a.writes → b.checks ⊆ a.checks → b.begins ⊆ a.begins → b.ends ⊆ a.ends
      → CallFacts n a → CallFacts n b
  calls_stay s t u v f =
      record {
        begun_once = λ x y m k. f.begun_once x y (u x m) (u y k);
        in_turn = λ x y m k. f.in_turn x y (u x m) (u y k);
        ended_once = λ x y m k. f.ended_once x y (v x m) (v y k);
        ended_begun = λ x m. let z = f.ended_begun x (v x m) in (z.0, g.begins _ z.1, z.2, z.3);
        written_before = λ x m w k. f.written_before x (v x m) w (s w k);
        justified = λ x m. end_stays s (f.justified x (v x m));
        confirmed = λ c m.
            let z = f.confirmed c (t c m) in
            (z.0, z.1, g.rounds _ z.2, z.3, z.4, z.5, z.6, λ q i. let y = z.7 q i in (y.0, g.reports _ y.1));
      }
