-- A key's hash and its bucket (RULES, Keys 1 and 2): FNV-1a of 32 bits, modulo the number of buckets. Each byte is exclusive-ored
-- into the hash, which is then multiplied by a prime, modulo 2^32.
use Rattle.std.specs.Prelude.{List, ℕ, zero, suc, ◌*◌, ◌%◌, ◌^◌}
use Rattle.std.specs.List.{fold}
use Rattle.std.specs.Int.Bits.{bit_xor}

-- the hash of no bytes
unfoldable pub offset_basis : ℕ
offset_basis = 2166136261

-- what it is multiplied by after each byte
unfoldable pub prime : ℕ
prime = 16777619

-- the hash h after one more byte b
unfoldable pub fnv_byte : ℕ → ℕ → ℕ
unfolding prime
fnv_byte h b = bit_xor h b * prime % 2 ^ 32

-- a key's hash: after each of its bytes, the first one first
unfoldable pub fnv : List ℕ → ℕ
unfolding offset_basis fnv_byte
fnv key = fold fnv_byte offset_basis key

-- a key's bucket: its hash modulo the number of buckets, and 0 where there are no buckets
unfoldable pub bucket_of : (buckets : ℕ) → List ℕ → ℕ
unfolding fnv
bucket_of zero key = 0
bucket_of (suc n) key = fnv key % suc n
