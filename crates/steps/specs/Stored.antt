-- What storing a server's head with one slot, or carrying out a move, leaves in the arrays.
use Rattle.std.specs.Prelude.{◌≡◌, List, ℕ}
use Rattle.server.specs.declared.Version.{Version}
use Rattle.server.specs.declared.Round.{Round}
use Rattle.server.specs.declared.Call.{Call}
use Rattle.memory.specs.Layout.{slot_of, put_head, put_version, put_round, put_call}
use Rattle.moves.specs.declared.Local.{Local}
use Rattle.moves.specs.declared.Move.{Move}
use Rattle.views.specs.Changes.{put_local, slots_after, kept_from}

abbrev pub put_slot : List ℕ → ℕ → Version → Round → Call → List ℕ
put_slot slots k v r c = put_call (put_round (put_version slots k v) k r) k c

pub record Stored (heads slots : List ℕ) (s k : ℕ) (l : Local) (heads' slots' : List ℕ) : Type 0 where
  pub head : heads' ≡ put_head heads s l.head
  pub slot : slots' ≡ put_local slots k l

-- the arrays of a server after a move, once its working content is filled
pub record MovedServer (heads slots copies working payloads : List ℕ) (buckets s b i : ℕ) (v : Move) (heads' slots' copies' : List ℕ) : Type 0 where
  pub head : heads' ≡ put_head heads s v.local.head
  pub slot : slots' ≡ slots_after slots buckets s (slot_of s b) v
  pub copy : copies' ≡ kept_from copies working payloads (slot_of s b) i v.keeps

-- a server's head and slots after a move
pub record Settled (heads slots : List ℕ) (buckets s k : ℕ) (v : Move) (heads' slots' : List ℕ) : Type 0 where
  pub head : heads' ≡ put_head heads s v.local.head
  pub slot : slots' ≡ slots_after slots buckets s k v
