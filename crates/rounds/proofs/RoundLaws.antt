-- What the rules of rounds make of a round and of its sender's head stands for what the definitions of crates/model make of them.
use Rattle.std.proofs.Common.{◌≡◌, ℕ, ◌+◌, ◌%◌, ◌^◌, ◌<◌, min, Bool, true, false, eqb, ltb, List, get_or, take, set, replicate, sym, refl, ap, ◌∙◌, ap₂, mod-eq_of_lt, arith, le-ltb}
use mathlib.Core.Option.{Option, none, some}
use lib.ListN.{get_or-map}
use Rattle.entries.specs.Entries.{Entry}
use Rattle.model.specs.Cluster as cluster
use Rattle.model.specs.Cluster.{above, copy_at, fresh_copy, round_at}
use Rattle.model.specs.Replica.{Request, reading, writing, voting, storing, accepting}
use Rattle.model.specs.Leader.{Reaction, no_reaction, report_to, new_round, opening, better, marked_by, counted, counting, on_reply}
use Rattle.server.specs.declared.Version.{Version}
use Rattle.server.specs.declared.Head.{Head}
use Rattle.server.specs.declared.Round.{Round}
use Rattle.server.specs.declared.Counted.{Counted}
use Rattle.server.specs.Views.{Beside, stored_in, server_in, beside_in, flag_in, role_in, votes_in, marks_in, purpose_in, mark_in, version_in, copy_in, among, open_in, round_in}
use Rattle.rounds.specs.Rounds.{is_silent, pick_version, reported, new_round_of, opened_head, improves, counted_with, counted_of, pick_table, matching}
use Rattle.server.proofs.Counting.{set_viewed, replicate_viewed}

-- ---- what is reported

recovery_reports : (purpose : ℕ) (c : cluster.Copy) → eqb purpose 1 ≡ true → report_to (purpose_in purpose) c ≡ c
unfolding purpose_in report_to
recovery_reports purpose c e = rw (purpose_in, e)

others_do_not : (purpose : ℕ) (c : cluster.Copy) → eqb purpose 1 ≡ false → report_to (purpose_in purpose) c ≡ fresh_copy
unfolding purpose_in report_to
others_do_not purpose c e =
    rw (purpose_in, e)
    (elim (eqb purpose 2) as
    (λ b. report_to (elim b [ true ↦ cluster.recovery_write | false ↦ elim (eqb purpose 3) [ true ↦ cluster.check | false ↦ cluster.own_write ] ]) c ≡ fresh_copy) [
      | true ↦ refl
      | false ↦
          elim (eqb purpose 3) as (λ b. report_to (elim b [ true ↦ cluster.check | false ↦ cluster.own_write ]) c ≡ fresh_copy) [ true ↦ refl | false ↦ refl ]
    ])

-- no version is above all: (0, 0) is above none
pub fresh_below : (v : cluster.Version) → above (cluster.version 0 0) v ≡ false
unfolding above
fresh_below v =
    elim (eqb 0 v.election) as (λ b. elim b [ true ↦ ltb v.counter 0 | false ↦ ltb v.election 0 ] ≡ false)
    [ true ↦ le-ltb v.counter 0 (omega arith) | false ↦ le-ltb v.election 0 (omega arith) ]

-- ---- a broadcast

reported_copy : (purpose : ℕ) (v : Version) (c : cluster.Copy) (b : Bool) → eqb purpose 1 ≡ b → version_in v ≡ c.version → copy_in (reported purpose v) (report_to (purpose_in purpose) c).table ≡ report_to (purpose_in purpose) c
unfolding reported pick_version
reported_copy purpose v c true e h = rw (recovery_reports purpose c e, e) (ap (λ w. cluster.copy_of w c.table) h)
reported_copy purpose v c false e h = rw (others_do_not purpose c e, e)

abbrev open_with : ℕ → Head → ℕ → List cluster.Mark → cluster.Copy → cluster.Round
open_with purpose h k marks best = record { number = k; election = h.number; purpose = purpose_in purpose; marks = marks; best = best }

pub new_round_means : (n me purpose b : ℕ) (x : Beside) (h : Head) (v : Version) → h.last + 1 < 2 ^ 32 → version_in v ≡ (copy_at (stored_in h x.copies) b).version → open_in n (new_round_of me purpose h v) (report_to (purpose_in purpose) (copy_at (stored_in h x.copies) b)).table ≡ new_round (min 7 n) me b (purpose_in purpose) (server_in n x h)
unfolding new_round mark_in
new_round_means n me purpose b x h v low e =
    let marks = set_viewed mark_in n (replicate 7 0) me 1 ∙ ap (λ l. set l me cluster.acknowledged) (replicate_viewed mark_in 0 n 7) in
    let best = reported_copy purpose v (copy_at (stored_in h x.copies) b) (eqb purpose 1) refl e in
    ap₂ (open_with purpose h ((h.last + 1) % 2 ^ 32)) marks best
    ∙ ap (λ k. open_with purpose h k (set (replicate (min 7 n) cluster.silent) me cluster.acknowledged) (report_to (purpose_in purpose) (copy_at (stored_in h x.copies) b))) (mod-eq_of_lt low)

abbrev with_copies : cluster.Stored → List cluster.Copy → cluster.Stored
with_copies st cs = record { number = st.number; vote = st.vote; leader = st.leader; copies = cs }

stored_head : (z : Bool) (st : cluster.Stored) (cs : List cluster.Copy) → with_copies st (elim z as (λ y. cluster.Stored) [ false ↦ st | true ↦ with_copies st cs ]).copies ≡ elim z [ false ↦ st | true ↦ with_copies st cs ]
stored_head true st cs = refl
stored_head false st cs = refl

-- a replica that accepts a request keeps its number and votes for the sender
accepting_head : (b e p : ℕ) (request : Request) (st : cluster.Stored) → with_copies (voting e p st) (accepting b e p request st).copies ≡ accepting b e p request st
unfolding accepting storing
accepting_head b e p reading st = refl
accepting_head b e p (writing c) st = stored_head (above c.version (copy_at st b).version) (voting e p st) (set st.copies b c)

pub opened_means : (n me b purpose : ℕ) (request : Request) (x : Beside) (h : Head) → h.last + 1 < 2 ^ 32 → server_in n (beside_in (opening n me b (purpose_in purpose) request (server_in n x h))) (opened_head me h) ≡ opening n me b (purpose_in purpose) request (server_in n x h)
unfolding opening
opened_means n me b purpose request x h low =
    let s = opening n me b (purpose_in purpose) request (server_in n x h) in
    ap₂ (λ st k. record { stored = st; volatile = record { role = role_in h.role; votes = votes_in n h; last_round = k; rounds = s.volatile.rounds; calls = s.volatile.calls }; stopped = flag_in h.stopped })
    (accepting_head b h.number me request (stored_in h x.copies)) (mod-eq_of_lt low)

-- ---- replies

recovery_improves : (purpose : ℕ) (report old : Version) → eqb purpose 1 ≡ true → improves purpose report old ≡ above (version_in report) (version_in old)
unfolding improves
recovery_improves purpose report old e = rw (improves, e)

others_never : (purpose : ℕ) (report old : Version) → eqb purpose 1 ≡ false → improves purpose report old ≡ false
unfolding improves
others_never purpose report old e = rw (improves, e)

-- the copy that is kept, with its table
abbrev kept : Bool → Version → List Entry → Version → List Entry → cluster.Copy
kept z report u old t = copy_in (pick_version z report old) (pick_table z u t)

best_counted : (purpose : ℕ) (report old : Version) (t u : List Entry) (b : Bool) → eqb purpose 1 ≡ b → kept (improves purpose report old) report u old t ≡ better (copy_in old t) (report_to (purpose_in purpose) (copy_in report u))
unfolding pick_version pick_table better
best_counted purpose report old t u true e =
    ap (λ z. kept z report u old t) (recovery_improves purpose report old e)
    ∙ (elim (above (version_in report) (version_in old)) as (λ z. kept z report u old t ≡ elim z [ true ↦ copy_in report u | false ↦ copy_in old t ]) [ true ↦ refl | false ↦ refl ]
    ∙ sym (ap (better (copy_in old t)) (recovery_reports purpose (copy_in report u) e)))
best_counted purpose report old t u false e =
    ap (λ z. kept z report u old t) (others_never purpose report old e)
    ∙ (sym (ap (λ z. elim z as (λ y. cluster.Copy) [ true ↦ fresh_copy | false ↦ copy_in old t ]) (fresh_below (version_in old)))
    ∙ sym (ap (better (copy_in old t)) (others_do_not purpose (copy_in report u) e)))

-- the mark of q, where a server past the first n counts as one that refused
mark_viewed : (n q : ℕ) (r : Round) → get_or (marks_in n r) q cluster.refused ≡ mark_in (get_or (take n r.marks) q 2)
unfolding mark_in
mark_viewed n q r = get_or-map mark_in (take n r.marks) q 2

-- what a reply makes of a round, by the mark of its sender
abbrev counted_at : cluster.Mark → ℕ → ℕ → cluster.Mark → cluster.Copy → cluster.Round → cluster.Round
counted_at k n q m report r =
    record {
      number = r.number;
      election = r.election;
      purpose = r.purpose;
      marks = elim k [ cluster.silent ↦ set r.marks q m | cluster.acknowledged ↦ r.marks | cluster.refused ↦ r.marks ];
      best = elim k [ cluster.silent ↦ better r.best (report_to r.purpose report) | cluster.acknowledged ↦ r.best | cluster.refused ↦ r.best ];
    }

abbrev counted_by : Bool → ℕ → ℕ → ℕ → Version → Round → List Entry → List Entry → cluster.Round
counted_by z n q mark report r u t =
    let better = improves r.purpose report r.best in
    let k = elim z as (λ y. Counted) [ true ↦ counted_with r (set r.marks q mark) (pick_version better report r.best) better | false ↦ record { round = r; better = false } ] in
    open_in n k.round (pick_table k.better u t)

counted_by_lem : (k : cluster.Mark) (n q mark : ℕ) (report : Version) (r : Round) (t u : List Entry) → counted_by (is_silent k) n q mark report r u t ≡ counted_at k n q (mark_in mark) (copy_in report u) (open_in n r t)
unfolding is_silent pick_table
counted_by_lem cluster.silent n q mark report r t u =
    ap₂ (λ marks best. record { number = r.number; election = r.election; purpose = purpose_in r.purpose; marks = marks; best = best })
    (set_viewed mark_in n r.marks q mark) (best_counted r.purpose report r.best t u (eqb r.purpose 1) refl)
counted_by_lem cluster.acknowledged n q mark report r t u = refl
counted_by_lem cluster.refused n q mark report r t u = refl

pub counted_means : (n q mark : ℕ) (report : Version) (r : Round) (t u : List Entry) → open_in n (counted_of n q mark report r).round (pick_table (counted_of n q mark report r).better u t) ≡ counted q (mark_in mark) (copy_in report u) (open_in n r t)
unfolding counted_of counted marked_by
counted_means n q mark report r t u =
    counted_by_lem (mark_in (get_or (take n r.marks) q 2)) n q mark report r t u
    ∙ ap (λ k. counted_at k n q (mark_in mark) (copy_in report u) (open_in n r t)) (sym (mark_viewed n q r))

-- ---- which replies count

pub matching_shut : (n : ℕ) (r : Round) (t : List Entry) (e k : ℕ) → among 4 r.purpose ≡ false → matching e k (round_in n r t) ≡ false
unfolding round_in matching
matching_shut n r t e k shut = ap (λ b. matching e k (elim b [ true ↦ some (open_in n r t) | false ↦ none ])) shut

-- what a reply makes of a server, by its open round
abbrev replied : ℕ → ℕ → cluster.Message → cluster.Mark → cluster.Copy → cluster.Server → Option cluster.Round → Reaction
replied n me m mark report s o =
    elim o [
      | none ↦ no_reaction s
      | some r ↦
          elim (eqb m.election r.election) [
            | false ↦ no_reaction s
            | true ↦ elim (eqb m.round r.number) [ false ↦ no_reaction s | true ↦ counting n me m.bucket (counted m.sender mark report r) s ]
          ]
    ]

abbrev both : Bool → Bool → Bool
both a b = elim a [ true ↦ b | false ↦ false ]

abbrev branch : {A : Type 0} → Bool → Bool → A → A → A
branch a b x y = elim a [ false ↦ x | true ↦ elim b [ false ↦ x | true ↦ y ] ]

not_both : {A : Type 0} (a b : Bool) (x y : A) → both a b ≡ false → branch a b x y ≡ x
not_both true true x y h = let z : ◌≡◌ {A = ℕ} 0 1 = cc in absurd (omega arith)
not_both true false x y h = refl
not_both false b x y h = refl

are_both : {A : Type 0} (a b : Bool) (x y : A) → both a b ≡ true → branch a b x y ≡ y
are_both true true x y h = refl
are_both true false x y h = let z : ◌≡◌ {A = ℕ} 0 1 = cc in absurd (omega arith)
are_both false b x y h = let z : ◌≡◌ {A = ℕ} 0 1 = cc in absurd (omega arith)

unmatched_by : (n me : ℕ) (m : cluster.Message) (mark : cluster.Mark) (report : cluster.Copy) (s : cluster.Server) (o : Option cluster.Round) → matching m.election m.round o ≡ false → replied n me m mark report s o ≡ no_reaction s
unfolding matching
unmatched_by n me m mark report s none h = refl
unmatched_by n me m mark report s (some r) h =
    not_both (eqb m.election r.election) (eqb m.round r.number) (no_reaction s) (counting n me m.bucket (counted m.sender mark report r) s) h

-- a reply that does not match changes nothing
pub unmatched : (n me : ℕ) (m : cluster.Message) (mark : cluster.Mark) (report : cluster.Copy) (s : cluster.Server) → matching m.election m.round (round_at s.volatile m.bucket) ≡ false → on_reply n me m mark report s ≡ no_reaction s
unfolding on_reply
unmatched n me m mark report s h = unmatched_by n me m mark report s (round_at s.volatile m.bucket) h

-- one that matches is counted
pub matched : (n me : ℕ) (m : cluster.Message) (mark : cluster.Mark) (report : cluster.Copy) (s : cluster.Server) (r : cluster.Round) → round_at s.volatile m.bucket ≡ some r → matching m.election m.round (some r) ≡ true → on_reply n me m mark report s ≡ counting n me m.bucket (counted m.sender mark report r) s
unfolding on_reply matching
matched n me m mark report s r e h =
    ap (replied n me m mark report s) e
    ∙ are_both (eqb m.election r.election) (eqb m.round r.number) (no_reaction s) (counting n me m.bucket (counted m.sender mark report r) s) h
