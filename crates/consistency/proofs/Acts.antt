-- The form in which every rule of a server is shown to keep the invariant: it adds to the log, and server, messages and answers
-- agree with what it added.
use mathlib.Core.Path.{◌≡◌}
use mathlib.Core.List.{List, ◌∷◌, ◌++◌, map}
use Prim.Native.Nat.{ℕ}
use Rattle.model.specs.Calls.{Answer}
use Rattle.model.specs.Cluster.{Server, Message}
use Rattle.model.specs.Leader.{Reaction}
use Rattle.history.specs.Members.{◌∈◌}
use Rattle.consistency.proofs.Log.{Vote, Win, Write, Accept, Report, Opened, Check, Begun, Ended, Log}
use Rattle.consistency.proofs.Claims.{MessageOk}
use Rattle.consistency.proofs.Invariant.{LogOk, ServerOk, AnyServerOk, any_server}
use Rattle.consistency.proofs.Growth.{Adds}

-- ---- a log with one entry more

abbrev pub add_vote : Vote → Log → Log
add_vote x l = record { votes = x ∷ l.votes; wins = l.wins; writes = l.writes; accepts = l.accepts; reports = l.reports; rounds = l.rounds; checks = l.checks; begins = l.begins; ends = l.ends }

abbrev pub add_win : Win → Log → Log
add_win x l = record { votes = l.votes; wins = x ∷ l.wins; writes = l.writes; accepts = l.accepts; reports = l.reports; rounds = l.rounds; checks = l.checks; begins = l.begins; ends = l.ends }

abbrev pub add_write : Write → Log → Log
add_write x l = record { votes = l.votes; wins = l.wins; writes = x ∷ l.writes; accepts = l.accepts; reports = l.reports; rounds = l.rounds; checks = l.checks; begins = l.begins; ends = l.ends }

abbrev pub add_accept : Accept → Log → Log
add_accept x l = record { votes = l.votes; wins = l.wins; writes = l.writes; accepts = x ∷ l.accepts; reports = l.reports; rounds = l.rounds; checks = l.checks; begins = l.begins; ends = l.ends }

abbrev pub add_report : Report → Log → Log
add_report x l = record { votes = l.votes; wins = l.wins; writes = l.writes; accepts = l.accepts; reports = x ∷ l.reports; rounds = l.rounds; checks = l.checks; begins = l.begins; ends = l.ends }

abbrev pub add_round : Opened → Log → Log
add_round x l = record { votes = l.votes; wins = l.wins; writes = l.writes; accepts = l.accepts; reports = l.reports; rounds = x ∷ l.rounds; checks = l.checks; begins = l.begins; ends = l.ends }

abbrev pub add_check : Check → Log → Log
add_check x l = record { votes = l.votes; wins = l.wins; writes = l.writes; accepts = l.accepts; reports = l.reports; rounds = l.rounds; checks = x ∷ l.checks; begins = l.begins; ends = l.ends }

abbrev pub add_begun : Begun → Log → Log
add_begun x l = record { votes = l.votes; wins = l.wins; writes = l.writes; accepts = l.accepts; reports = l.reports; rounds = l.rounds; checks = l.checks; begins = x ∷ l.begins; ends = l.ends }

abbrev pub add_ended : Ended → Log → Log
add_ended x l = record { votes = l.votes; wins = l.wins; writes = l.writes; accepts = l.accepts; reports = l.reports; rounds = l.rounds; checks = l.checks; begins = l.begins; ends = x ∷ l.ends }

-- ---- what a rule of server p gives

-- answers printed in a line, as the log has them
abbrev pub ends_of : ℕ → List Answer → List Ended
ends_of now l = map (λ a. record { number = a.call; result = a.result; line = now }) l

-- `Ok` is what holds of server p afterwards
pub record KeptAs (Ok : Log → Server → Type 0) (n buckets now taken p : ℕ) (log : Log) (r : Reaction) : Type 0 where
  pub next : Log
  pub adds : Adds p log next
  pub facts : LogOk n now taken next
  pub server : Ok next r.server
  pub sends : (m : Message) → m ∈ r.sends → MessageOk buckets next m
  pub begins : next.begins ≡ log.begins
  pub ends : (x : Ended) → (x ∈ next.ends → x ∈ (ends_of now r.answers ++ log.ends)) × (x ∈ (ends_of now r.answers ++ log.ends) → x ∈ next.ends)

-- a server that runs
abbrev pub Kept : (n buckets now taken p : ℕ) → Log → Reaction → Type 0
Kept n buckets now taken p = KeptAs (λ next s. ServerOk n buckets next p s) n buckets now taken p

-- one that may have been stopped, or brought back
abbrev pub KeptAny : (n buckets now taken p : ℕ) → Log → Reaction → Type 0
KeptAny n buckets now taken p = KeptAs (λ next s. AnyServerOk n buckets next p s) n buckets now taken p

pub kept_any : {n buckets now taken p : ℕ} {log : Log} {r : Reaction} → Kept n buckets now taken p log r → KeptAny n buckets now taken p log r
kept_any k =
    record { next = k.next; adds = k.adds; facts = k.facts; server = any_server k.server; sends = k.sends; begins = k.begins; ends = k.ends }
