-- Rows P1 to P10 (RULES, Rows and edges), proved as a whole: one computed test over all ten.
use Rattle.std.specs.Prelude.{◌≡◌, refl, List, [], ◌∷◌, ◌++◌, Bool, true, false, not, ℕ, eqb, replicate}
use Rattle.std.proofs.Math.Option.{some}
use Rattle.hash.specs.Fnv.{fnv, bucket_of}
use Rattle.entries.specs.Entries.{Entry, entry, value_of}
use Rattle.table.specs.Form.{bucket_bytes, read_number, same_bytes, same_value}
use Rattle.model.specs.Measures.{majority, max_entries, max_value_bytes}
use Rattle.model.specs.Cluster.{Version, version, copy_of, copy_at, Server, ack_vote, replica_write, kind_number, Message, fresh_server}
use Rattle.model.specs.Lines.{is_leading}
use Rattle.model.specs.Leader.{Reaction, elect, handle}
use Rattle.model.specs.Compute.{computing}

-- a test of all
unfoldable pub every : List Bool → Bool
every [] = true
every (true ∷ l) = every l
every (false ∷ l) = false

-- the kind number of the first message, 0 where there is none
unfoldable pub first_kind : List Message → ℕ
first_kind [] = 0
first_kind (m ∷ l) = kind_number m.body

-- the table and the bytes of P5
abbrev pub table5 : List Entry
table5 = entry (0x61 ∷ []) (0x68 ∷ 0x69 ∷ []) ∷ []

abbrev pub front5 : List ℕ
front5 = 0x01 ∷ 0x05 ∷ 0x01 ∷ 0x06 ∷ 0x02 ∷ 0x61 ∷ 0x68 ∷ 0x69 ∷ []

-- a server with this vote and stored version, and a write to it
abbrev pub replica : ℕ → Version → Server
replica vote stored =
    let s = fresh_server 3 1 in
    record {
      stored = record { number = 0; vote = vote; leader = 0; copies = copy_of stored table5 ∷ [] };
      volatile = s.volatile;
      stopped = false;
    }

abbrev pub write : Version → Message
write v = record { sender = 0; receiver = 1; bucket = 0; election = v.election; round = 1; body = replica_write (copy_of v []) }

abbrev pub written : ℕ → Version → Version → Reaction
written vote stored v = handle 3 1 (write v) (replica vote stored)

-- server 0 of 5, candidate under number 1, after an ACKVOTE from server 1
abbrev pub voted : Server → Server
voted s = (handle 5 0 (record { sender = 1; receiver = 0; bucket = 0; election = 1; round = 0; body = ack_vote }) s).server

unfoldable pub rows : List Bool
rows =
    -- P1: key 61 hashes to E40C292C: bucket 0 of 4, 4 of 8
    every (eqb (fnv (0x61 ∷ [])) 0xE40C292C ∷ eqb (bucket_of 4 (0x61 ∷ [])) 0 ∷ eqb (bucket_of 8 (0x61 ∷ [])) 4 ∷ [])
    -- P2: key 65 hashes to E00C22E0: bucket 0 of 4
    ∷ every (eqb (fnv (0x65 ∷ [])) 0xE00C22E0 ∷ eqb (bucket_of 4 (0x65 ∷ [])) 0 ∷ [])
    -- P3: key 62 goes to bucket 1 of 4
    ∷ eqb (bucket_of 4 (0x62 ∷ [])) 1
    -- P4: majorities of 1, 4, 7: 1, 3, 4
    ∷ every (eqb (majority 1) 1 ∷ eqb (majority 4) 3 ∷ eqb (majority 7) 4 ∷ [])
    -- P5: table 61 to 6869: bytes 01 05 01 06 02 61 68 69, then 105 zeros
    ∷ same_bytes (bucket_bytes max_entries max_value_bytes table5) (front5 ++ replicate 105 0)
    -- P6: empty table: 113 zeros
    ∷ same_bytes (bucket_bytes max_entries max_value_bytes []) (replicate 113 0)
    -- P7: P5 with last byte 1: refused 13
    ∷ eqb (read_number max_entries max_value_bytes (front5 ++ (replicate 104 0 ++ (1 ∷ [])))) 13
    -- P8: vote 5, stored (5, 3), write (5, 2): acknowledged, (5, 3) stays, with its table
    ∷ every
    (eqb (first_kind (written 5 (version 5 3) (version 5 2)).sends) 5
    ∷ eqb (copy_at (written 5 (version 5 3) (version 5 2)).server.stored 0).version.election 5
    ∷ eqb (copy_at (written 5 (version 5 3) (version 5 2)).server.stored 0).version.counter 3
    ∷ same_value (value_of (0x61 ∷ []) (copy_at (written 5 (version 5 3) (version 5 2)).server.stored 0).table) (some (0x68 ∷ 0x69 ∷ []))
    ∷ [])
    -- P9: vote 6, write under 5: NACKWRITE
    ∷ eqb (first_kind (written 6 (version 5 3) (version 5 4)).sends) 6
    -- P10: 5 servers, own vote and two ACKVOTEs from server 1: no leader
    ∷ not (is_leading (voted (voted (elect 5 0 (fresh_server 5 1)).server)).volatile.role)
    ∷ []

pub rows_hold : every rows ≡ true
unfolding computing read_number every first_kind rows
rows_hold = refl
