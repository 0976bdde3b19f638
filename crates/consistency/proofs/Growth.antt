-- Every claim survives growth of the log; and a server that takes no step stays in agreement with a log that another server adds to.
use mathlib.Core.Path.{◌≡◌, refl, sym, ◌∙◌}
use mathlib.Core.Logic.{◌⊎◌, inl, inr}
use mathlib.Core.List.{List}
use mathlib.Core.Option.{some}
use Prim.Native.Nat.{ℕ}
use Rattle.entries.specs.Entries.{Entry}
use Rattle.model.specs.Cluster.{Version, Body, please_vote, ack_vote, nack_vote, replica_write, ack_write, nack_write, replica_read, ack_read, nack_read, Message}
use Rattle.history.specs.Members.{◌∈◌}
use Rattle.consistency.proofs.Majorities.{quorums}
use Rattle.consistency.proofs.Log.{Vote, Win, Write, Accept, Report, Opened, Begun, Ended, Log, Grows}
use Rattle.consistency.proofs.Claims.{Won, Holds, first, later, Chosen, quorum, RoundOf, BodyOk, MessageOk}
use Rattle.consistency.proofs.Claims
use Rattle.consistency.proofs.Invariant.{VoteFacts}

-- ---- claims

module _ {a b : Log} (g : Grows a b) where
  pub won_grows : {e p : ℕ} → Won a e p → Won b e p
  won_grows w = record { win = w.win; had = g.wins _ w.had; election = w.election; leader = w.leader }

  pub holds_grows : {k : ℕ} {x : Version} {t : List Entry} → Holds a k x t → Holds b k x t
  holds_grows (Claims.Holds.first e f) = Claims.Holds.first e f
  holds_grows (later w m e f h) = later w (g.writes w m) e f h

  pub chosen_grows : {n k : ℕ} {x : Version} → Chosen n a k x → Chosen n b k x
  chosen_grows (Claims.Chosen.first e) = Claims.Chosen.first e
  chosen_grows (quorum l m f) = quorum l m (λ q i. g.accepts _ (f q i))

  pub round_grows : {p e k c : ℕ} {w : _} {x : Version} → RoundOf a p e k c w x → RoundOf b p e k c w x
  round_grows r =
      record {
        opened = r.opened;
        had = g.rounds _ r.had;
        leader = r.leader;
        election = r.election;
        number = r.number;
        bucket = r.bucket;
        kind = r.kind;
        at = r.at;
      }

  body_grows : (buckets : ℕ) (m : Message) (body : Body) → BodyOk buckets a m body → BodyOk buckets b m body
  body_grows buckets m please_vote c = c
  body_grows buckets m ack_vote (inl v) = inl (g.votes _ v)
  body_grows buckets m ack_vote (inr w) = inr (won_grows w)
  body_grows buckets m nack_vote c = c
  body_grows buckets m (replica_write copy) c = (won_grows c.0, c.1, c.2, g.writes _ c.3, c.4, c.5, c.6, round_grows c.7, c.8)
  body_grows buckets m ack_write c = (c.0, round_grows c.1, g.accepts _ c.2)
  body_grows buckets m nack_write c = c
  body_grows buckets m replica_read c = (won_grows c.0, c.1, round_grows c.2)
  body_grows buckets m (ack_read copy) c = (c.0, round_grows c.1, g.reports _ c.2, holds_grows c.3)
  body_grows buckets m nack_read c = c

  -- a message in flight stays justified
  pub message_grows : {buckets : ℕ} {m : Message} → MessageOk buckets a m → MessageOk buckets b m
  message_grows {buckets} {m} k = record { apart = k.apart; positive = k.positive; claim = body_grows buckets m m.body k.claim }

pub grows_refl : (a : Log) → Grows a a
grows_refl a =
    record {
      votes = λ x m. m;
      wins = λ x m. m;
      writes = λ x m. m;
      accepts = λ x m. m;
      reports = λ x m. m;
      rounds = λ x m. m;
      checks = λ x m. m;
      begins = λ x m. m;
      ends = λ x m. m;
    }

pub grows_trans : {a b c : Log} → Grows a b → Grows b c → Grows a c
grows_trans f g =
    record {
      votes = λ x m. g.votes x (f.votes x m);
      wins = λ x m. g.wins x (f.wins x m);
      writes = λ x m. g.writes x (f.writes x m);
      accepts = λ x m. g.accepts x (f.accepts x m);
      reports = λ x m. g.reports x (f.reports x m);
      rounds = λ x m. g.rounds x (f.rounds x m);
      checks = λ x m. g.checks x (f.checks x m);
      begins = λ x m. g.begins x (f.begins x m);
      ends = λ x m. g.ends x (f.ends x m);
    }

-- ---- what server p may add

-- a call taken at p
abbrev pub TakenAt : Log → ℕ → ℕ → Type 0
TakenAt log p i = (y : Begun) × (y ∈ log.begins) × (y.number ≡ i) × (y.server ≡ p)

pub record Adds (p : ℕ) (a b : Log) : Type 0 where
  pub grows : Grows a b
  pub votes : (x : Vote) → x ∈ b.votes → (x ∈ a.votes) ⊎ (x.server ≡ p)
  pub wins : (x : Win) → x ∈ b.wins → (x ∈ a.wins) ⊎ (x.leader ≡ p)
  pub writes : (x : Write) → x ∈ b.writes → (x ∈ a.writes) ⊎ (Won b x.at.election p × ((i : ℕ) → x.call ≡ some i → TakenAt b p i))
  pub accepts : (x : Accept) → x ∈ b.accepts → (x ∈ a.accepts) ⊎ (x.server ≡ p)
  pub reports : (x : Report) → x ∈ b.reports → (x ∈ a.reports) ⊎ (x.server ≡ p)
  pub rounds : (x : Opened) → x ∈ b.rounds → (x ∈ a.rounds) ⊎ (x.leader ≡ p)
  pub ends : (x : Ended) → x ∈ b.ends → (x ∈ a.ends) ⊎ TakenAt b p x.number

pub adds_refl : (p : ℕ) (a : Log) → Adds p a a
adds_refl p a =
    record {
      grows = grows_refl a;
      votes = λ x m. inl m;
      wins = λ x m. inl m;
      writes = λ x m. inl m;
      accepts = λ x m. inl m;
      reports = λ x m. inl m;
      rounds = λ x m. inl m;
      ends = λ x m. inl m;
    }

taken_grows : {a b : Log} {p i : ℕ} → Grows a b → TakenAt a p i → TakenAt b p i
taken_grows g t = (t.0, g.begins _ t.1, t.2, t.3)

pub adds_trans : {p : ℕ} {a b c : Log} → Adds p a b → Adds p b c → Adds p a c
adds_trans {p} {a} {b} {c} f g =
    record {
      grows = grows_trans f.grows g.grows;
      votes = λ x m. elim (g.votes x m) [ inl k ↦ f.votes x k | inr e ↦ inr e ];
      wins = λ x m. elim (g.wins x m) [ inl k ↦ f.wins x k | inr e ↦ inr e ];
      writes = λ x m. elim (g.writes x m) [
        | inl k ↦ elim (f.writes x k) [
          | inl j ↦ inl j
          | inr e ↦ inr (won_grows g.grows e.0, λ i h. taken_grows g.grows (e.1 i h))
        ]
        | inr e ↦ inr e
      ];
      accepts = λ x m. elim (g.accepts x m) [ inl k ↦ f.accepts x k | inr e ↦ inr e ];
      reports = λ x m. elim (g.reports x m) [ inl k ↦ f.reports x k | inr e ↦ inr e ];
      rounds = λ x m. elim (g.rounds x m) [ inl k ↦ f.rounds x k | inr e ↦ inr e ];
      ends = λ x m. elim (g.ends x m) [
        | inl k ↦ elim (f.ends x k) [ inl j ↦ inl j | inr e ↦ inr (taken_grows g.grows e) ]
        | inr e ↦ inr e
      ];
    }

-- ---- one leader under a number

pub one_winner : (n : ℕ) {log : Log} → VoteFacts n log → {e p q : ℕ} → Won log e p → Won log e q → p ≡ q
one_winner n {log} v {e} {p} {q} a b =
    let s = (quorums n).meet a.win.members b.win.members (v.quorate _ a.had) (v.quorate _ b.had) in
    let x = v.voted _ a.had s.0 s.1 in
    let y = v.voted _ b.had s.0 s.2 in
    sym a.leader ∙ v.one_vote _ _ x y refl (a.election ∙ sym b.election) ∙ b.leader
