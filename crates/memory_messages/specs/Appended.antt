-- What is left of the two arrays after a message was appended to n.
use Rattle.std.specs.Prelude.{◌≡◌, List, ℕ, ◌<◌}
use Rattle.server.specs.declared.Message.{Message}
use Rattle.memory.specs.Layout.{message_room, place_at, put_message}
use Rattle.memory.specs.Lent.{Lent}
use Rattle.memory_regions.specs.Regions.{Regions, old_regions, new_regions, with_queue}
use Rattle.memory_regions.specs.Contents.{Contents, old_contents, new_contents, put_payload}

-- its header, at the place p
pub record AppendedHeader (r : Regions) (n : ℕ) (m : Message) (r' : Regions) (p : ℕ) : Type 0 where
  pub header : r' ≡ with_queue r (put_message r.queue n m)
  pub place : p ≡ place_at r.queue n
  pub among : p < message_room

-- its header, and the block v as its content
pub record AppendedMessage (r : Regions) (c : Contents) (n : ℕ) (m : Message) (v : List ℕ) (r' : Regions) (c' : Contents) : Type 0 where
  pub header : r' ≡ with_queue r (put_message r.queue n m)
  pub content : c' ≡ put_payload c (place_at r.queue n) v

abbrev pub AppendsHeader : (words : Lent) → ℕ → Message → ℕ → Type 0
AppendsHeader words n m p = AppendedHeader (old_regions words) n m (new_regions words) p

abbrev pub Appends : (words bytes : Lent) → ℕ → Message → List ℕ → Type 0
Appends words bytes n m v = AppendedMessage (old_regions words) (old_contents bytes) n m v (new_regions words) (new_contents bytes)
