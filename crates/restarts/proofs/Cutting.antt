-- A cut as a move: the stores that a message makes, and the first of them.
use mathlib.Core.Path.{◌≡◌, refl, sym, ap, ◌∙◌, subst⁻¹}
use mathlib.Core.Logic.{◌⊎◌, inl, inr}
use mathlib.Core.Bool.{Bool, true, false, cond}
use mathlib.Core.List.{List, [], ◌∷◌, ◌++◌}
use Prim.Native.Nat.{ℕ, zero, suc}
use native.Mathlib.Omega.{arith}
use borrow.Author.Tests.{eqb-true, le-leb}
use lib.Dec.{eqb, ltb, leb}
use lib.ListN.{length, take, set}
use lib.Seq.{set-set}
use Rattle.entries.specs.Entries.{Entry}
use Rattle.model.specs.Calls as calls
use Rattle.model.specs.Cluster as cluster
use Rattle.model.specs.Cluster.{copy_at, above}
use Rattle.model.specs.Replica as replica
use Rattle.model.specs.Replica.{may_accept}
use Rattle.model.specs.Stores as model
use Rattle.model.specs.Stores.{Store, vote_store, copy_store, put_store, put_stores, vote_stores, copy_stores, accept_stores, request_stores, please_vote_stores, stores_of}
use Rattle.model.specs.Leader.{reaction, no_reaction}
use Rattle.model.specs.Lines.{cut_server}
use Rattle.cells.proofs.Laws.{copy_there}
use Rattle.server.specs.declared.Message.{Message}
use Rattle.server.specs.declared.Version.{Version}
use Rattle.server.specs.Views.{version_in, copy_in, flag_in, chosen, is_broadcast}
use Rattle.server.specs.Heads.{voting_head}
use Rattle.rounds.specs.Rounds.{pick_version, no_version}
use Rattle.moves.specs.declared.Filling.TheVariants as filling
use Rattle.moves.specs.declared.Keeping.TheVariants as keeping
use Rattle.moves.specs.declared.Local.{Local}
use Rattle.moves.specs.declared.Move.{Move}
use Rattle.moves.specs.Moves.{local_of, no_answer, stores, stopped_head}
use Rattle.moves.specs.Reactions.{front_in, cell_in, Seen, Tables, work_after, copy_after, body_in, message_in, Asked, sends_in, answers_in, moved_server, server_after, answers_after, reaction_in}
use Rattle.moves.proofs.Ceasing.{placed, seen_itself}
use Rattle.restarts.specs.Restarts.{changes_vote, stores_vote, stores_bucket, stores_made, votes_by, keeps_by, cut_head, cut_move}

-- ---- the kinds

three_kinds : (k : ℕ) → is_broadcast k ≡ true → (k ≡ 1) ⊎ ((k ≡ 4) ⊎ (k ≡ 7))
unfolding is_broadcast
three_kinds k = go (eqb k 1) refl (eqb k 4) refl
  where
    go : (x : Bool) → eqb k 1 ≡ x → (y : Bool) → eqb k 4 ≡ y → (elim x as (λ _. Bool) [ true ↦ true | false ↦ elim y [ true ↦ true | false ↦ eqb k 7 ] ]) ≡ true → (k ≡ 1) ⊎ ((k ≡ 4) ⊎ (k ≡ 7))
    go true e y f h = inl (eqb-true _ _ e)
    go false e true f h = inr (inl (eqb-true _ _ f))
    go false e false f h = inr (inr (eqb-true _ _ h))

broadcast_kinds : (k : ℕ) (w : Version) (u : List Entry) → (k ≡ 1) ⊎ ((k ≡ 4) ⊎ (k ≡ 7)) → model.is_broadcast (body_in k w u) ≡ is_broadcast k
unfolding model.is_broadcast body_in is_broadcast
broadcast_kinds k w u (inl e) = rw e refl
broadcast_kinds k w u (inr (inl e)) = rw e refl
broadcast_kinds k w u (inr (inr e)) = rw e refl

-- a body by the tests of its kind: a, d and g are those of 1, 4 and 7
abbrev body_by : Version → List Entry → (a c d e f g h i : Bool) → cluster.Body
body_by w u a c d e f g h i =
    elim a [
      | true ↦ cluster.please_vote
      | false ↦
          elim c [
            | true ↦ cluster.ack_vote
            | false ↦
                elim d [
                  | true ↦ cluster.replica_write (copy_in w u)
                  | false ↦
                      elim e [
                        | true ↦ cluster.ack_write
                        | false ↦
                            elim f [
                              | true ↦ cluster.nack_write
                              | false ↦
                                  elim g [
                                    | true ↦ cluster.replica_read
                                    | false ↦
                                        elim h [ true ↦ cluster.ack_read (copy_in w u) | false ↦ elim i [ true ↦ cluster.nack_read | false ↦ cluster.nack_vote ] ]
                                  ]
                            ]
                      ]
                ]
          ]
    ]

abbrev broadcast_by : (a d g : Bool) → Bool
broadcast_by a d g = elim a [ true ↦ true | false ↦ elim d [ true ↦ true | false ↦ g ] ]

other_bodies : (w : Version) (u : List Entry) (a d g c e f h i : Bool) → broadcast_by a d g ≡ false → model.is_broadcast (body_by w u a c d e f g h i) ≡ broadcast_by a d g
unfolding model.is_broadcast
other_bodies w u true d g c e f h i z = let y : ◌≡◌ {A = ℕ} 0 1 = cc in absurd (omega arith)
other_bodies w u false true g c e f h i z = let y : ◌≡◌ {A = ℕ} 0 1 = cc in absurd (omega arith)
other_bodies w u false false true c e f h i z = let y : ◌≡◌ {A = ℕ} 0 1 = cc in absurd (omega arith)
other_bodies w u false false false true e f h i z = refl
other_bodies w u false false false false true f h i z = refl
other_bodies w u false false false false false true h i z = refl
other_bodies w u false false false false false false true i z = refl
other_bodies w u false false false false false false false true z = refl
other_bodies w u false false false false false false false false z = refl

other_kinds : (k : ℕ) (w : Version) (u : List Entry) → is_broadcast k ≡ false → model.is_broadcast (body_in k w u) ≡ is_broadcast k
unfolding body_in is_broadcast
other_kinds k w u z = other_bodies w u (eqb k 1) (eqb k 4) (eqb k 7) (eqb k 2) (eqb k 5) (eqb k 6) (eqb k 8) (eqb k 9) z

module _ (n b : ℕ) (x : Message) (s : cluster.Server) (l : Local) (t : Tables) (words : calls.Words)
    (seen : Seen n b s l t.copy t.work words) (on : b ≡ x.bucket) where
  abbrev the_vote : Store
  the_vote = vote_store x.election x.sender

  abbrev the_copy : Store
  the_copy = copy_store x.bucket (copy_in x.version t.message)

  abbrev there : cluster.Stored
  there = (placed n b l t words s).stored

  -- ---- the stores made, in order

  abbrev made : Bool → Bool → List Store
  made vote bucket = (elim vote as (λ _. List Store) [ true ↦ the_vote ∷ [] | false ↦ [] ]) ++ (elim bucket as (λ _. List Store) [ true ↦ the_copy ∷ [] | false ↦ [] ])

  made_count : (vote bucket : Bool) → length (made vote bucket) ≡ stores_made vote bucket
  unfolding stores_made chosen
  made_count true true = refl
  made_count true false = refl
  made_count false true = refl
  made_count false false = refl

  vote_made : (z : Bool) → (elim z as (λ _. List Store) [ true ↦ the_vote ∷ [] | false ↦ [] ]) ≡ made z false
  vote_made true = refl
  vote_made false = refl

  -- z: the request is below the vote; y, w: its number and leader are those of the vote; q: its version is above the copy's
  abbrev vote_by : Bool → Bool → List Store
  vote_by y w = elim y [ false ↦ the_vote ∷ [] | true ↦ elim w [ true ↦ [] | false ↦ the_vote ∷ [] ] ]

  abbrev heeded : Bool → Bool
  heeded z = elim z [ true ↦ false | false ↦ true ]

  abbrev changed : Bool → Bool → Bool → Bool
  changed z y w = elim (heeded z) [ false ↦ false | true ↦ elim y [ false ↦ true | true ↦ elim w [ true ↦ false | false ↦ true ] ] ]

  read_made : (z y w : Bool) → (elim (heeded z) as (λ _. List Store) [ false ↦ [] | true ↦ vote_by y w ]) ≡ made (changed z y w) false
  read_made true y w = refl
  read_made false false w = refl
  read_made false true true = refl
  read_made false true false = refl

  write_made : (z y w q : Bool)
      → (elim (heeded z) as (λ _. List Store) [ false ↦ [] | true ↦ vote_by y w ++ (elim q as (λ _. List Store) [ true ↦ the_copy ∷ [] | false ↦ [] ]) ])
      ≡ made (changed z y w) (elim (heeded z) [ false ↦ false | true ↦ q ])
  write_made true y w q = refl
  write_made false false w q = refl
  write_made false true true q = refl
  write_made false true false q = refl

  copy_read : copy_at there x.bucket ≡ copy_in l.version t.copy
  copy_read = rw (← on) (copy_there s b seen.inside (front_in n l.head) (cell_in n l t.copy t.work words))

  -- by the body, and by the number of its kind
  abbrev stores_body : cluster.Body → List Store
  stores_body body =
      elim body [
        | cluster.please_vote ↦ please_vote_stores x.election x.sender there
        | cluster.ack_vote ↦ []
        | cluster.nack_vote ↦ []
        | cluster.replica_write c ↦ request_stores (message_in x t.message) (replica.writing c) there
        | cluster.ack_write ↦ []
        | cluster.nack_write ↦ []
        | cluster.replica_read ↦ request_stores (message_in x t.message) replica.reading there
        | cluster.ack_read c ↦ []
        | cluster.nack_read ↦ []
      ]

  abbrev low : Bool
  low = ltb x.election l.head.vote

  abbrev vote_of : ℕ → Bool
  vote_of kind =
      elim (eqb kind 1) [
        | true ↦ ltb l.head.vote x.election
        | false ↦ changed low (eqb x.election l.head.vote) (eqb x.sender l.head.leader)
      ]

  abbrev bucket_of : ℕ → Bool
  bucket_of kind = elim (eqb kind 4) [ false ↦ false | true ↦ elim (heeded low) [ false ↦ false | true ↦ stores x.version l ] ]

  abbrev Made : ℕ → Type 0
  Made kind = stores_body (body_in kind x.version t.message) ≡ made (vote_of kind) (bucket_of kind)

  made_by_vote : Made 1
  unfolding body_in please_vote_stores
  made_by_vote = vote_made (ltb l.head.vote x.election)

  made_by_write : Made 4
  unfolding body_in request_stores accept_stores vote_stores copy_stores may_accept
  made_by_write =
      let y = eqb x.election l.head.vote in
      let w = eqb x.sender l.head.leader in
      write_made low y w (above (version_in x.version) (copy_at there x.bucket).version)
      ∙ ap (λ c. made (changed low y w) (elim (heeded low) [ false ↦ false | true ↦ above (version_in x.version) c.version ])) copy_read

  made_by_read : Made 7
  unfolding body_in request_stores accept_stores vote_stores may_accept
  made_by_read = read_made low (eqb x.election l.head.vote) (eqb x.sender l.head.leader)

  made_by : (k : ℕ) → (k ≡ 1) ⊎ ((k ≡ 4) ⊎ (k ≡ 7)) → Made k
  made_by k (inl e) = subst⁻¹ Made e made_by_vote
  made_by k (inr (inl e)) = subst⁻¹ Made e made_by_write
  made_by k (inr (inr e)) = subst⁻¹ Made e made_by_read

  stores_there : is_broadcast x.kind ≡ true → stores_of (message_in x t.message) there ≡ made (stores_vote x l.head) (stores_bucket x l)
  unfolding stores_of stores_vote stores_bucket changes_vote may_accept
  stores_there h = made_by x.kind (three_kinds x.kind h)

  -- the kinds that ask, and how many stores they make
  pub broadcast_seen : model.is_broadcast (message_in x t.message).body ≡ is_broadcast x.kind
  broadcast_seen = by_kind x.kind
    where
      by_kind : (k : ℕ) → model.is_broadcast (body_in k x.version t.message) ≡ is_broadcast k
      by_kind k = go (is_broadcast k) refl
        where
          go : (z : Bool) → is_broadcast k ≡ z → model.is_broadcast (body_in k x.version t.message) ≡ is_broadcast k
          go true e = broadcast_kinds k x.version t.message (three_kinds k e)
          go false e = other_kinds k x.version t.message e

  pub count_seen : is_broadcast x.kind ≡ true → length (stores_of (message_in x t.message) s.stored) ≡ stores_made (stores_vote x l.head) (stores_bucket x l)
  count_seen h =
      ap (λ z. length (stores_of (message_in x t.message) z.stored)) (seen_itself n b s l t words seen)
      ∙ (ap length (stores_there h) ∙ made_count (stores_vote x l.head) (stores_bucket x l))

  -- ---- the first k of them

  -- what is stored, by whether the vote is, and the bucket
  abbrev cut_stored : Bool → Bool → cluster.Stored
  cut_stored vote bucket =
      record {
        number = l.head.number;
        vote = elim vote [ true ↦ x.election | false ↦ l.head.vote ];
        leader = elim vote [ true ↦ x.sender | false ↦ l.head.leader ];
        copies =
            set s.stored.copies b
            (elim bucket as (λ _. cluster.Copy) [ true ↦ copy_in x.version t.message | false ↦ copy_in l.version t.copy ]);
      }

  copied_there : (vote : Bool) → put_store the_copy (cut_stored vote false) ≡ cut_stored vote true
  unfolding put_store
  copied_there vote =
      let old : cluster.Copy = copy_in l.version t.copy in
      let new : cluster.Copy = copy_in x.version t.message in
      let copies : set (set s.stored.copies b old) x.bucket new ≡ set s.stored.copies b new =
      ap (λ j. set (set s.stored.copies b old) j new) (sym on) ∙ set-set s.stored.copies b old new in
      ap (λ z. record { number = l.head.number; vote = elim vote [ true ↦ x.election | false ↦ l.head.vote ]; leader = elim vote [ true ↦ x.sender | false ↦ l.head.leader ]; copies = z }) copies

  first_made : (vote bucket : Bool) (k : ℕ)
      → put_stores (take k (made vote bucket)) there ≡ cut_stored (elim vote [ false ↦ false | true ↦ leb 1 k ]) (elim bucket [ false ↦ false | true ↦ leb (stores_made vote true) k ])
  unfolding put_stores put_store stores_made chosen
  first_made false false zero = refl
  first_made false false (suc k) = refl
  first_made true false zero = refl
  first_made true false (suc zero) = refl
  first_made true false (suc (suc k)) = rw (le-leb 1 (suc (suc k)) (omega arith)) refl
  first_made false true zero = refl
  first_made false true (suc zero) = copied_there false
  first_made false true (suc (suc k)) = rw (le-leb 1 (suc (suc k)) (omega arith)) (copied_there false)
  first_made true true zero = refl
  first_made true true (suc zero) = refl
  first_made true true (suc (suc zero)) = copied_there true
  first_made true true (suc (suc (suc k))) = rw (le-leb 1 (suc (suc (suc k))) (omega arith), le-leb 2 (suc (suc (suc k))) (omega arith)) (copied_there true)

  -- the move, by whether the vote is stored, and the bucket
  abbrev move_by : Bool → Bool → Move
  move_by vote bucket =
      record {
        local =
            local_of (stopped_head (elim vote [ true ↦ voting_head x.election x.sender l.head | false ↦ l.head ]))
            (pick_version bucket x.version l.version) l.round l.call;
        sends = 0;
        written = no_version;
        fills = filling.Stays;
        keeps = cond bucket keeping.Message keeping.Stays;
        answer = no_answer;
        ceases = false;
        forgets = false;
      }

  moved_by : (vote bucket : Bool)
      → ◌≡◌ {A = cluster.Server} (record { stored = cut_stored vote bucket; volatile = (placed n b l t words s).volatile; stopped = true }) (moved_server n b (move_by vote bucket) t words s)
  unfolding pick_version copy_after work_after flag_in
  moved_by true true = refl
  moved_by true false = refl
  moved_by false true = refl
  moved_by false false = refl

  pub cut_means : (me k : ℕ) (a : Asked) (v : List ℕ) (u : List Entry) → is_broadcast x.kind ≡ true
      → reaction (cut_server k (message_in x t.message) s) [] [] ≡ reaction_in n me b a (cut_move k x l) t words v u s
  unfolding server_after answers_after answers_in sends_in cut_move cut_head votes_by keeps_by
  cut_means me k a v u h =
      ap (λ z. no_reaction (cut_server k (message_in x t.message) z)) (seen_itself n b s l t words seen)
      ∙ (ap (λ z. no_reaction (record { stored = put_stores (take k z) there; volatile = (placed n b l t words s).volatile; stopped = true })) (stores_there h)
      ∙ (ap (λ z. no_reaction (record { stored = z; volatile = (placed n b l t words s).volatile; stopped = true })) (first_made (stores_vote x l.head) (stores_bucket x l) k)
      ∙ ap no_reaction (moved_by (votes_by k x l.head) (keeps_by k x l))))
