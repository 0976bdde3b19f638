-- A history with two elections, for which the facts hold. The leader of the first election writes 7 for call 1, alone accepts it
-- and ends the call as `unknown`. The second leader recovers that write, and call 2, which reads, is answered 7.
use mathlib.Core.Path.{◌≡◌, refl, sym, ◌∙◌, ap}
use mathlib.Core.Logic.{◌⊎◌, inl, inr}
use mathlib.Core.Option.{Option, none, some}
use mathlib.Core.List.Memᴰ
use mathlib.Core.List.Memᴰ.{tail as next}
use mathlib.Core.List.{List, [], ◌∷◌}
use Prim.Native.Nat.{ℕ, ◌+◌, ◌-◌, ◌*◌, ◌≤◌, ◌<◌}
use native.Mathlib.Omega.{arith}
use lib.ListN.{get_or}
use Rattle.history.specs.Members.{◌∈◌}
use Rattle.history.specs.Version.{Version, version, ◌≼◌}
use Rattle.history.specs.History.{Contents, Quorums, Write, Accept, Report, Win, Check, unknown, notdone, answered, Call, History, Holds, first, later, quorum, kept, changed, Origin, Succeeds, recovers, follows, ByWrite, ByCheck, Facts}
use Rattle.history.specs.Ordering.{Distinct, Fed}
use Rattle.history.proofs.MemberLaws.{first_in, none_in, each_cons, clash}
use Rattle.history.proofs.Quorum.{Majority}
use Rattle.history.proofs.MajorityQuorums.{majority_quorums}
use Rattle.history.proofs.Theorem.{one_order}

-- a number; a call writes one or reads
abbrev wrote : Option ℕ → ℕ → ℕ
wrote none t = t
wrote (some n) t = n

abbrev M : Contents
M = record { Table = ℕ; Words = Option ℕ; Result = ℕ; empty = 0; after = wrote; answer = λ w t. t }

abbrev put : Call M
put = record { number = 1; words = some 7; begun = 3; end = unknown 4 }

abbrev get : Call M
get = record { number = 2; words = none; begun = 7; end = answered 8 7 }

abbrev w1 : Write M
w1 = record { at = version 1 1; parent = version 0 0; table = 0; call = none; line = 2 }

abbrev w2 : Write M
w2 = record { at = version 1 2; parent = version 1 1; table = 7; call = some 1; line = 3 }

abbrev w3 : Write M
w3 = record { at = version 2 1; parent = version 1 2; table = 7; call = none; line = 6 }

abbrev accept_of_lem : ℕ → Version → Accept
accept_of_lem q v = record { server = q; at = v }

abbrev report_of_lem : ℕ → ℕ → Version → Report
report_of_lem q e v = record { server = q; election = e; at = v }

abbrev win1 : Win
win1 = record { election = 1; members = 0 ∷ 1 ∷ []; line = 1 }

abbrev win2 : Win
win2 = record { election = 2; members = 0 ∷ 2 ∷ []; line = 5 }

abbrev check2 : Check
check2 = record { at = version 2 1; call = 2; line = 7; members = 0 ∷ 2 ∷ [] }

abbrev h : History M
h = record {
  writes = w1 ∷ w2 ∷ w3 ∷ [];
  accepts = accept_of_lem 0 (version 1 1) ∷ accept_of_lem 1 (version 1 1) ∷ accept_of_lem 0 (version 1 2) ∷ accept_of_lem 0 (version 2 1) ∷ accept_of_lem 2 (version 2 1) ∷ [];
  reports = report_of_lem 0 1 (version 0 0) ∷ report_of_lem 1 1 (version 0 0) ∷ report_of_lem 0 2 (version 1 2) ∷ report_of_lem 2 2 (version 0 0) ∷ [];
  wins = win1 ∷ win2 ∷ [];
  checks = check2 ∷ [];
  calls = put ∷ get ∷ [];
}

-- three servers, two of them are a quorum
abbrev Q : Quorums
Q = majority_quorums 0 3 2 (omega arith)

-- ---- what is shown of each member of a list

abbrev All : {A : Type 0} → (A → Type 0) → List A → Type 0
All P [] = Unit {0}
All P (a ∷ l) = P a × All P l

each : {A : Type 0} (P : A → Type 0) (l : List A) → All P l → (a : A) → a ∈ l → P a
each P [] p a m = none_in m
each P (x ∷ l) p a m = each_cons p.0 (each P l p.1) a m

both : {A B : Type 0} (R : A → B → Type 0) (k : List A) (l : List B) → All (λ a. All (R a) l) k → (a : A) → a ∈ k → (b : B) → b ∈ l → R a b
both R k l p a m b n = each (R a) l (each (λ x. All (R x) l) k p a m) b n

two : (a b : ℕ) → a < b → b < 3 → Majority 0 3 2 (a ∷ b ∷ [])
two a b l m = record {
  distinct = (λ k. elim (Memᴰ.cases_cons k) [ inl e ↦ omega arith | inr n ↦ none_in n ], (none_in, tt));
  servers = each (λ q. (0 ≤ q) × (q < 0 + 3)) (a ∷ b ∷ []) (omega arith);
  enough = omega arith;
}

-- what was written at v was written by line n
written_by : (v : Version) (n : ℕ) → All (λ (x : Write M). x.at.election ≡ v.election → x.at.counter ≡ v.counter → x.line ≤ n) h.writes
    → (x : Write M) → x ∈ h.writes → x.at ≡ v → x.line ≤ n
written_by v n p x m e = each (λ (y : Write M). y.at.election ≡ v.election → y.at.counter ≡ v.counter → y.line ≤ n) h.writes p x m (ap (λ y. y.election) e) (ap (λ y. y.counter) e)

-- two members with one key are the same, if each is what the key tells
keyed : {A : Type 0} (key : A → ℕ) (told : ℕ → A) (l : List A) → All (λ a. a ≡ told (key a)) l → (a b : A) → a ∈ l → b ∈ l → key a ≡ key b → a ≡ b
keyed key told l p a b m n e = each _ l p a m ∙ ap told e ∙ sym (each _ l p b n)

-- ---- the facts

promised : (q e : ℕ) (v r : Version) → accept_of_lem q v ∈ h.accepts → report_of_lem q e r ∈ h.reports → v.election < e → v ≼ r
promised q e v r m n l =
    both (λ (a : Accept) (b : Report). a.server ≡ b.server → a.at.election < b.election → a.at ≼ b.at) h.accepts h.reports
    (omega arith, (omega arith, (omega arith, (omega arith, (omega arith, tt))))) (accept_of_lem q v) m (report_of_lem q e r) n refl l

one_call : (i : ℕ) (w : Write M) → w ∈ h.writes → w.call ≡ some i → (w ≡ w2) × (i ≡ 1)
one_call i = each (λ w. w.call ≡ some i → (w ≡ w2) × (i ≡ 1)) h.writes
    (λ e. clash (cc), (λ e. (refl, cc), (λ e. clash (cc), tt)))

third : {t : ℕ} → Holds h (version 2 1) t → t ≡ 7
third (first e _) = absurd (omega (arith, ap (λ v. v.election) e))
third {t} (later w m e d) =
    each (λ (x : Write M). x.at.election ≡ 2 → x.table ≡ t → t ≡ 7) h.writes (omega arith) w m (ap (λ v. v.election) e) d

get_check : ByCheck Q h get 8 7
get_check = record {
  check = check2;
  made = first_in;
  own = refl;
  confirmed = two 0 2 (omega arith) (omega arith);
  chosen = quorum (0 ∷ 2 ∷ []) (two 0 2 (omega arith) (omega arith)) (each (λ q. accept_of_lem q (version 2 1) ∈ h.accepts) (0 ∷ 2 ∷ []) (next (next (next first_in)), (next (next (next (next first_in))), tt)));
  after = omega arith;
  before = omega arith;
  right = λ t e. third e;
  unchanged = λ t e. refl;
  unwritten = λ w m e. omega (arith, one_call 2 w m e);
}

abbrev Reported : Write M → ℕ → Type 0
Reported w q = (r : Version) × (report_of_lem q w.at.election r ∈ h.reports) × (r ≼ w.parent)

reports1 : (q : ℕ) → q ∈ (0 ∷ 1 ∷ []) → Reported w1 q
reports1 = each (Reported w1) (0 ∷ 1 ∷ []) ((version 0 0, first_in, omega arith), ((version 0 0, next first_in, omega arith), tt))

reports2 : (q : ℕ) → q ∈ (0 ∷ 2 ∷ []) → Reported w3 q
reports2 = each (Reported w3) (0 ∷ 2 ∷ []) ((version 1 2, next (next first_in), omega arith), ((version 0 0, next (next (next first_in)), omega arith), tt))

facts : Facts Q h
facts = record {
  unique = λ w x m n e. keyed (λ y. 2 * y.at.election + y.at.counter) (λ k. get_or h.writes (k - 3) w1) h.writes (refl, (refl, (refl, tt))) w x m n (ap (λ v. 2 * v.election + v.counter) e);
  positive = each (λ (w : Write M). (1 ≤ w.at.election) × (1 ≤ w.at.counter)) h.writes (omega arith);
  origin = each (Origin h) h.writes (
    record { table = 0; holds = first refl refl; makes = kept refl; older = written_by (version 0 0) 2 (omega arith) },
    (
      record { table = 0; holds = later w1 first_in refl refl; makes = changed put first_in refl; older = written_by (version 1 1) 3 (omega arith) },
      (record { table = 7; holds = later w2 (next first_in) refl refl; makes = kept refl; older = written_by (version 1 2) 6 (omega arith) }, tt),
    ),
  );
  succeeds = each (Succeeds Q h) h.writes (
    recovers refl (omega arith) (0 ∷ 1 ∷ []) (two 0 1 (omega arith) (omega arith)) reports1,
    (
      follows refl refl (omega arith),
      (recovers refl (omega arith) (0 ∷ 2 ∷ []) (two 0 2 (omega arith) (omega arith)) reports2, tt),
    ),
  );
  won = each (λ (w : Write M). (x : Win) × (x ∈ h.wins) × (x.election ≡ w.at.election) × (x.line ≤ w.line)) h.writes
      ((win1, first_in, refl, omega arith), ((win1, first_in, refl, omega arith), ((win2, next first_in, refl, omega arith), tt)));
  quorate = each (λ (x : Win). Majority 0 3 2 x.members) h.wins (two 0 1 (omega arith) (omega arith), (two 0 2 (omega arith) (omega arith), tt));
  accepted = each (λ (a : Accept). (w : Write M) × (w ∈ h.writes) × (w.at ≡ a.at)) h.accepts
      ((w1, first_in, refl), ((w1, first_in, refl), ((w2, next first_in, refl), ((w3, next (next first_in), refl), ((w3, next (next first_in), refl), tt)))));
  promised = promised;
  newest = λ k m w n. both (λ (k : Check) (w : Write M). w.at.election ≡ k.at.election → w.line < k.line → w.at ≼ k.at) h.checks h.writes (omega arith) k m w n;
  written = each (λ (k : Check). (w : Write M) → w ∈ h.writes → w.at ≡ k.at → w.line ≤ k.line) h.checks (written_by (version 2 1) 7 (omega arith), tt);
  unseated = λ k m x n e l q i j. both (λ (k : Check) (x : Win). k.at.election < x.election → x.line < k.line → ⊥) h.checks h.wins (omega arith) k m x n e l;
  numbered = λ c d m n e. keyed (λ (c : Call M). c.number) (λ k. get_or h.calls (k - 1) put) h.calls (refl, (refl, tt)) c d m n e;
  in_turn = λ c d m n. both (λ (c d : Call M). c.begun < d.begun → c.number < d.number) h.calls h.calls (omega arith) c m d n;
  owner = λ w m i e. let (s, n) = one_call i w m e in (put, first_in, sym n, rw s (omega arith));
  once = λ w x m n i e d. (one_call i w m e).0 ∙ sym (one_call i x n d).0;
  in_time = λ c m line e w n d. each (λ (c : Call M). c.end ≡ unknown line → w.call ≡ some c.number → w.line ≤ line) h.calls
      (λ g a. let z : line ≡ 4 = cc in rw ((one_call 1 w n a).0, z) (omega arith), (λ g a. clash (cc), tt)) c m e d;
  undone = λ c m line e w n d. each (λ (c : Call M). c.end ≡ notdone line → ⊥) h.calls
      (λ g. clash (cc), (λ g. clash (cc), tt)) c m e;
  justified = λ c m line r e. each (λ (c : Call M). c.end ≡ answered line r → ByWrite Q h c line r ⊎ ByCheck Q h c line r) h.calls
      (λ g. clash (cc), (λ g. let z : line ≡ 8 = cc in let y : r ≡ 7 = cc in rw (z, y) (inr get_check), tt)) c m e;
}

-- ---- its order: call 1 is in it though its end was `unknown`, and before call 2

-- whoever comes next is call 1, or call 2 and the table is 7
comes : {t i : ℕ} (l : List ℕ) → Fed M h.calls t (i ∷ l) → (i ≡ 1) ⊎ ((i ≡ 2) × (t ≡ 7))
comes {t} {i} l (c, m, n, a, g) =
    each (λ (c : Call M). c.number ≡ i → ((line : ℕ) (r : ℕ) → c.end ≡ answered line r → t ≡ r) → (i ≡ 1) ⊎ ((i ≡ 2) × (t ≡ 7))) h.calls
    (λ e b. inl (sym e), (λ e b. inr (sym e, b 8 7 refl), tt)) c m n a

-- so whatever order they have, call 1 stands first
starts : {i : ℕ} (l : List ℕ) → Fed M h.calls 0 (i ∷ l) → i ≡ 1
starts l g = elim (comes l g) [ inl e ↦ e | inr e ↦ absurd (omega arith) ]

only_order : (l : List ℕ) → 2 ∈ l → Distinct l → Fed M h.calls 0 l → l ≡ 1 ∷ 2 ∷ []
only_order [] m d g = none_in m
only_order (i ∷ []) m d g = absurd (omega (arith, starts [] g, Memᴰ.eq_of_singleton m))
only_order (i ∷ j ∷ []) m d g =
    let one = starts (j ∷ []) g in
    elim (comes [] g.4) [ inl e ↦ absurd (d.0 (Memᴰ.head (one ∙ sym e))) | inr e ↦ rw (one, e.0) ]
only_order (i ∷ j ∷ k ∷ l) m d g =
    let one = starts (j ∷ k ∷ l) g in
    elim (comes (k ∷ l) g.4) [
      | inl e ↦ absurd (d.0 (Memᴰ.head (one ∙ sym e)))
      | inr e ↦ elim (comes l g.4.4) [
        | inl b ↦ absurd (d.0 (next (Memᴰ.head (one ∙ sym b))))
        | inr b ↦ absurd (d.1.0 (Memᴰ.head (e.0 ∙ sym b.0)))
      ]
    ]

the_order : (one_order Q h facts).order ≡ 1 ∷ 2 ∷ []
the_order =
    let o = one_order Q h facts in
    only_order o.order (o.complete get (next first_in) 8 7 refl) o.distinct o.fed
