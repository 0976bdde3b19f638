-- Datagrams computed: written, read, and turned down.
use Rattle.std.specs.Prelude.{◌≡◌, refl, List, [], ◌∷◌, ◌++◌, ℕ, replicate}
use Rattle.entries.specs.Entries.{Entry, entry, order}
use Rattle.table.specs.Form.{bucket_size, within, rising, sized, fits, header, body, packed, bucket_bytes, entries_of, table_of, same_bytes, read_bucket}
use Rattle.bucket.specs.Answers.{numbered}
use Rattle.fields.specs.Form.{Datagram, version, is_vote, carries, length_of, addressed, rounded, settled, same_election, versioned, well_formed, table_fits, big, header_bytes, version_bytes, full_bytes, datagram_bytes, number, field, headed, version_in, taken, refused, checked, read_datagram, write_datagram}

-- PLEASEVOTE from 0 to 1 under election number 258
please_vote : Datagram
please_vote = record { kind = 1; from = 0; to = 1; bucket = 0; election = 258; round = 0; version = version 0 0; table = [] }

please_vote_bytes : List ℕ
please_vote_bytes = 1 ∷ 0 ∷ 1 ∷ 0 ∷ 1 ∷ 2 ∷ 0 ∷ 0 ∷ 0 ∷ 0 ∷ []

-- row P5 (RULES, Rows and edges)
one_key : List Entry
one_key = entry (0x61 ∷ []) (0x68 ∷ 0x69 ∷ []) ∷ []

-- REPLICAWRITE from 2 to 6 for bucket 7, election number 5, round 9, with a version and a table
replica_write : ℕ → ℕ → List Entry → Datagram
replica_write e c t = record { kind = 4; from = 2; to = 6; bucket = 7; election = 5; round = 9; version = version e c; table = t }

replica_write_bytes : List ℕ
replica_write_bytes = (4 ∷ 2 ∷ 6 ∷ 7 ∷ 0 ∷ 5 ∷ 0 ∷ 0 ∷ 0 ∷ 9 ∷ 0 ∷ 5 ∷ 0 ∷ 0 ∷ 1 ∷ 0 ∷ 1 ∷ 5 ∷ 1 ∷ 6 ∷ 2 ∷ 0x61 ∷ 0x68 ∷ 0x69 ∷ []) ++ replicate 105 0

vote_written : datagram_bytes please_vote ≡ please_vote_bytes
unfolding please_vote please_vote_bytes carries big header_bytes datagram_bytes
vote_written = refl

vote_read : read_datagram please_vote_bytes ≡ taken please_vote
unfolding please_vote please_vote_bytes within is_vote carries length_of addressed rounded versioned well_formed number field headed checked read_datagram
vote_read = refl

write_written : datagram_bytes (replica_write 5 256 one_key) ≡ replica_write_bytes
unfolding replica_write replica_write_bytes one_key carries big header_bytes version_bytes full_bytes datagram_bytes bucket_size header body packed bucket_bytes
write_written = refl

write_read : read_datagram replica_write_bytes ≡ taken (replica_write 5 256 one_key)
unfolding replica_write replica_write_bytes one_key order bucket_size within rising sized fits header body packed bucket_bytes entries_of table_of same_bytes read_bucket is_vote carries length_of addressed rounded settled same_election versioned well_formed number field headed version_in checked read_datagram
write_read = refl

-- kind 10, else as the vote above
kind_ten : read_datagram (10 ∷ 0 ∷ 1 ∷ 0 ∷ 1 ∷ 2 ∷ 0 ∷ 0 ∷ 0 ∷ 0 ∷ []) ≡ refused 14
unfolding within carries length_of well_formed number field headed checked read_datagram
kind_ten = refl

-- version (0, 3), in a datagram that is right else: kind 8 with an empty bucket
counter_without_number : read_datagram ((8 ∷ 2 ∷ 6 ∷ 7 ∷ 0 ∷ 5 ∷ 0 ∷ 0 ∷ 0 ∷ 9 ∷ 0 ∷ 0 ∷ 0 ∷ 0 ∷ 0 ∷ 3 ∷ []) ++ replicate 113 0) ≡ refused 14
unfolding order bucket_size within rising sized fits header body packed bucket_bytes entries_of table_of same_bytes read_bucket is_vote carries length_of addressed rounded settled same_election versioned well_formed number field headed version_in checked read_datagram
counter_without_number = refl

-- the last bucket byte 1: 13, though the server writes to itself
bucket_before_form : read_datagram ((8 ∷ 2 ∷ 2 ∷ 7 ∷ 0 ∷ 5 ∷ 0 ∷ 0 ∷ 0 ∷ 9 ∷ 0 ∷ 0 ∷ 0 ∷ 0 ∷ 0 ∷ 0 ∷ []) ++ (replicate 112 0 ++ (1 ∷ []))) ≡ refused 13
unfolding order bucket_size within rising sized fits header body packed bucket_bytes entries_of table_of same_bytes read_bucket carries length_of read_datagram
bucket_before_form = refl

-- in kind 4 the two election numbers differ: 14 before 15
other_election : write_datagram (replica_write 6 256 one_key) [] ≡ numbered 14 []
unfolding replica_write one_key order within rising sized fits is_vote carries length_of addressed rounded settled same_election versioned well_formed table_fits write_datagram
other_election = refl
