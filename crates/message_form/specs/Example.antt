-- The bytes of messages in flight, computed: kinds, sender before receiver, and a table that is carried.
use Rattle.std.specs.Prelude.{◌≡◌, refl, List, [], ◌∷◌, ◌++◌, map, ℕ, replicate}
use Rattle.std.proofs.Math.Option.{none, some}
use Rattle.fields.specs.Form.{carries, big, header_bytes, version_bytes, full_bytes, datagram_bytes}
use Rattle.model.specs.Lines.{initial_state}
use Rattle.model.specs.Text.{bytes}
use Rattle.model.specs.Run.{state_after, lines_of}
use Rattle.model.specs.Compute.{computing}
use Rattle.message_form.specs.Statement.{copy_in, datagram_of, message_bytes}

-- all that is in flight after a script
abbrev datagrams_in_flight : List ℕ → List (List ℕ)
datagrams_in_flight input = elim (state_after initial_state (lines_of input)).cluster [ none ↦ [] | some c ↦ map message_bytes c.messages ]

-- PLEASEVOTE from 0 to 2, ACKVOTE from 1 to 0
votes : datagrams_in_flight (bytes "cluster 3 1\nelect 0\ndeliver 0\n") ≡ (1 ∷ 0 ∷ 2 ∷ 0 ∷ 0 ∷ 1 ∷ 0 ∷ 0 ∷ 0 ∷ 0 ∷ []) ∷ (2 ∷ 1 ∷ 0 ∷ 0 ∷ 0 ∷ 1 ∷ 0 ∷ 0 ∷ 0 ∷ 0 ∷ []) ∷ []
unfolding computing carries big header_bytes version_bytes full_bytes datagram_bytes copy_in datagram_of
votes = refl

-- REPLICAREAD from 0 to 1, round 1
first_read : datagrams_in_flight (bytes "cluster 2 1\nelect 0\ndeliver 0\ndeliver 0\nset 0 61 6869\n") ≡ (7 ∷ 0 ∷ 1 ∷ 0 ∷ 0 ∷ 1 ∷ 0 ∷ 0 ∷ 0 ∷ 1 ∷ []) ∷ []
unfolding computing carries big header_bytes version_bytes full_bytes datagram_bytes copy_in datagram_of
first_read = refl

-- ACKREAD from 1 to 0 with the version (0, 0) of a bucket that was never written
unwritten : datagrams_in_flight (bytes "cluster 2 1\nelect 0\ndeliver 0\ndeliver 0\nset 0 61 6869\ndeliver 0\n") ≡ ((8 ∷ 1 ∷ 0 ∷ 0 ∷ 0 ∷ 1 ∷ 0 ∷ 0 ∷ 0 ∷ 1 ∷ []) ++ replicate 119 0) ∷ []
unfolding computing carries big header_bytes version_bytes full_bytes datagram_bytes copy_in datagram_of
unwritten = refl

-- the call's own write, in round 4: REPLICAWRITE from 0 to 1 with version (1, 2) and one key
own_write_in_flight : datagrams_in_flight (bytes "cluster 2 1\nelect 0\ndeliver 0\ndeliver 0\nset 0 61 6869\ndeliver 0\ndeliver 0\ndeliver 0\ndeliver 0\ndeliver 0\ndeliver 0\n")
    ≡ ((4 ∷ 0 ∷ 1 ∷ 0 ∷ 0 ∷ 1 ∷ 0 ∷ 0 ∷ 0 ∷ 4 ∷ []) ++ (0 ∷ 1 ∷ 0 ∷ 0 ∷ 0 ∷ 2 ∷ []) ++ (1 ∷ 5 ∷ 1 ∷ 6 ∷ 2 ∷ 0x61 ∷ 0x68 ∷ 0x69 ∷ []) ++ replicate 105 0) ∷ []
unfolding computing carries big header_bytes version_bytes full_bytes datagram_bytes copy_in datagram_of
own_write_in_flight = refl
