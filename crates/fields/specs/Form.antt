-- The datagram form (RULES, Datagrams).
use Rattle.std.specs.Prelude.{List, [], ◌∷◌, ◌++◌, Bool, true, false, not, ◌&&◌, ◌||◌, ℕ, zero, suc, ◌+◌, ◌*◌, ◌/◌, ◌%◌, ◌^◌, leb, eqb, length, get_or, take, drop}
use Rattle.std.proofs.Math.Option.{none, some}
use Rattle.entries.specs.Entries.{Entry}
use Rattle.table.specs.Form.{within, fits, bucket_bytes, read_bucket}
use Rattle.bucket.specs.Answers.{Numbered, numbered}
use Rattle.fields.specs.declared.Version as code

pub record Version : Type 0 where
  pub election : ℕ
  pub counter : ℕ

abbrev pub version : ℕ → ℕ → Version
version e c = record { election = e; counter = c }

-- what a version of the code stands for
abbrev pub version_of : code.Version → Version
version_of v = version v.election v.counter

pub record Datagram : Type 0 where
  pub kind : ℕ
  pub from : ℕ
  pub to : ℕ
  pub bucket : ℕ
  pub election : ℕ
  pub round : ℕ
  pub version : Version
  pub table : List Entry

-- ---- kinds

-- 1 PLEASEVOTE, 2 ACKVOTE, 3 NACKVOTE, 4 REPLICAWRITE, 5 ACKWRITE, 6 NACKWRITE, 7 REPLICAREAD, 8 ACKREAD, 9 NACKREAD

unfoldable pub is_vote : ℕ → Bool
is_vote k = within 3 k

-- kinds 4 and 8 go on with a version and a bucket
unfoldable pub carries : ℕ → Bool
carries k = eqb k 4 || eqb k 8

unfoldable pub length_of : ℕ → ℕ
length_of k = elim (carries k) [ true ↦ 129 | false ↦ 10 ]

-- ---- which datagrams are well formed; sizes of servers and buckets are the greatest, not a cluster's

-- the greatest numbers of two and of four bytes
abbrev pub max_two : ℕ
max_two = 65535

abbrev pub max_four : ℕ
max_four = 4294967295

-- from differs from to, both at most 6; bucket at most 7; election number at least 1
unfoldable pub addressed : ℕ → ℕ → ℕ → ℕ → Bool
addressed from to bucket election = not (eqb from to) && leb from 6 && leb to 6 && leb bucket 7 && within max_two election

-- kinds 1 to 3 carry bucket 0 and round 0, the others a round of at least 1
unfoldable pub rounded : ℕ → ℕ → ℕ → Bool
rounded kind bucket round = elim (is_vote kind) [ true ↦ eqb bucket 0 && eqb round 0 | false ↦ within max_four round ]

-- a version's counter is 0 exactly where its number is 0, and then the bucket is empty
unfoldable pub settled : Version → ℕ → Bool
settled v entries = elim (eqb v.election 0) [ true ↦ eqb v.counter 0 && eqb entries 0 | false ↦ leb v.election max_two && within max_four v.counter ]

-- in kind 4 the two election numbers are equal
unfoldable pub same_election : ℕ → ℕ → Version → Bool
same_election kind election v = elim (eqb kind 4) [ true ↦ eqb v.election election | false ↦ true ]

-- nothing is asked of a version and a table that the kind does not carry: they are not written
unfoldable pub versioned : Datagram → Bool
versioned d = elim (carries d.kind) [ false ↦ true | true ↦ same_election d.kind d.election d.version && settled d.version (length d.table) ]

unfoldable pub well_formed : Datagram → Bool
well_formed d = within 9 d.kind && addressed d.from d.to d.bucket d.election && rounded d.kind d.bucket d.round && versioned d

-- a table that is carried has a bucket form
unfoldable pub table_fits : Datagram → Bool
table_fits d = elim (carries d.kind) [ false ↦ true | true ↦ fits 4 16 d.table ]

-- ---- the form of a datagram

-- a number in n bytes, the highest first
unfoldable pub big : ℕ → ℕ → List ℕ
big zero x = []
big (suc n) x = x / 256 ^ n ∷ big n (x % 256 ^ n)

unfoldable pub header_bytes : Datagram → List ℕ
header_bytes d = d.kind ∷ (d.from ∷ (d.to ∷ (d.bucket ∷ (big 2 d.election ++ big 4 d.round))))

unfoldable pub version_bytes : Version → List ℕ
version_bytes v = big 2 v.election ++ big 4 v.counter

-- a datagram that carries a bucket: the bucket bytes begin at byte 16
unfoldable pub full_bytes : Datagram → List ℕ
full_bytes d = header_bytes d ++ (version_bytes d.version ++ bucket_bytes 4 16 d.table)

unfoldable pub datagram_bytes : Datagram → List ℕ
datagram_bytes d = elim (carries d.kind) [ false ↦ header_bytes d | true ↦ full_bytes d ]

-- what the form keeps of a datagram: a version and a table only where the kind carries them
unfoldable pub carried : Datagram → Datagram
carried d =
    elim (carries d.kind) [
      | true ↦ d
      | false ↦ record { kind = d.kind; from = d.from; to = d.to; bucket = d.bucket; election = d.election; round = d.round; version = version 0 0; table = [] }
    ]

-- ---- reading

-- the number that bytes stand for, the highest first
unfoldable pub number : List ℕ → ℕ
number [] = 0
number (b ∷ l) = b * 256 ^ length l + number l

-- the number in the n bytes from `at` on
unfoldable pub field : ℕ → ℕ → List ℕ → ℕ
field at n b = number (take n (drop at b))

-- what header bytes stand for, whatever they are, with a version and a table
unfoldable pub headed : List ℕ → Version → List Entry → Datagram
headed b v t =
    record {
      kind = get_or b 0 0;
      from = get_or b 1 0;
      to = get_or b 2 0;
      bucket = get_or b 3 0;
      election = field 4 2 b;
      round = field 6 4 b;
      version = v;
      table = t;
    }

unfoldable pub version_in : List ℕ → Version
version_in b = version (field 10 2 b) (field 12 4 b)

-- the datagram, or the number of the refusal
pub data Parsed : Type 0 where
  taken : Datagram → Parsed
  refused : ℕ → Parsed

unfoldable pub checked : Datagram → Parsed
checked d = elim (well_formed d) [ true ↦ taken d | false ↦ refused 14 ]

-- 13 is looked at only where the kind is 4 or 8 and the length 129, and there it is looked at first
unfoldable pub read_datagram : List ℕ → Parsed
read_datagram b =
    elim (eqb (length b) (length_of (get_or b 0 0))) [
      | false ↦ refused 14
      | true ↦
          elim (carries (get_or b 0 0)) [
            | false ↦ checked (headed b (version 0 0) [])
            | true ↦
                elim (read_bucket 4 16 (drop 16 b)) [ none ↦ refused 13 | some t ↦ checked (headed b (version_in b) t) ]
          ]
    ]

-- ---- writing

-- 13 before 14 before 15; a refusal changes nothing, and bytes past the datagram stay
unfoldable pub write_datagram : Datagram → List ℕ → Numbered
write_datagram d out =
    elim (table_fits d) [
      | false ↦ numbered 13 out
      | true ↦
          elim (well_formed d) [
            | false ↦ numbered 14 out
            | true ↦
                elim (leb (length_of d.kind) (length out)) [ false ↦ numbered 15 out | true ↦ numbered 0 (datagram_bytes d ++ drop (length_of d.kind) out) ]
          ]
    ]
