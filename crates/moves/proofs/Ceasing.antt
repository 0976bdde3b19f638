-- A server seen at one slot is that slot put into itself; ceasing and stepping down as moves.
use mathlib.Core.Path.{◌≡◌, refl, sym, ap, ap₂, ◌∙◌}
use mathlib.Core.Bool.{true, false}
use mathlib.Core.List.{List, []}
use Prim.Native.Nat.{ℕ}
use lib.Dec.{ltb}
use lib.ListN.{length, set}
use Rattle.entries.specs.Entries.{Entry}
use Rattle.model.specs.Calls as calls
use Rattle.model.specs.Cluster as cluster
use Rattle.model.specs.Leader.{Reaction, reaction, no_reaction, endings, cease, acts, step_down}
use Rattle.cells.specs.Cells.{put_cell}
use Rattle.cells.proofs.Laws.{itself}
use Rattle.server.specs.declared.Version.{Version}
use Rattle.server.specs.Views.{beside_in, role_in, call_in}
use Rattle.server.proofs.HeadLaws.{ceased_means}
use Rattle.moves.specs.declared.Local.{Local}
use Rattle.moves.specs.declared.Filling.TheVariants as filling
use Rattle.moves.specs.declared.Keeping.{Keeping}
use Rattle.moves.specs.declared.Move.{Move}
use Rattle.moves.specs.Moves.{no_answer, quiet, ceasing, stepped_down}
use Rattle.moves.specs.Reactions.{front_in, cell_in, Seen, Tables, work_after, copy_after, Asked, sends_in, answers_in, moved_server, server_after, answers_after, reaction_in}

-- the server with the slot's local, tables and words put at bucket b
abbrev pub placed : ℕ → ℕ → Local → Tables → calls.Words → cluster.Server → cluster.Server
placed n b l t words s = put_cell s b (front_in n l.head) (cell_in n l t.copy t.work words)

pub seen_itself : (n b : ℕ) (s : cluster.Server) (l : Local) (t : Tables) (words : calls.Words)
    → Seen n b s l t.copy t.work words → s ≡ placed n b l t words s
seen_itself n b s l t words seen = sym (itself s b seen.inside) ∙ ap₂ (put_cell s b) seen.front seen.cell

-- its calls are those of the server
pub calls_kept : (n b : ℕ) (s : cluster.Server) (l : Local) (t : Tables) (words : calls.Words)
    → Seen n b s l t.copy t.work words → (placed n b l t words s).volatile.calls ≡ s.volatile.calls
calls_kept n b s l t words seen = sym (ap (λ z. z.volatile.calls) (seen_itself n b s l t words seen))

module _ (n me b : ℕ) (a : Asked) (s : cluster.Server) (l : Local) (t : Tables) (words : calls.Words) (v : List ℕ) (u : List Entry)
    (seen : Seen n b s l t.copy t.work words) where
  -- a move that does nothing
  pub quiet_means : no_reaction s ≡ reaction_in n me b a (quiet l) t words v u s
  unfolding server_after answers_after answers_in sends_in work_after copy_after
  quiet_means = ap no_reaction (seen_itself n b s l t words seen)

  pub ceasing_means : cease s ≡ reaction_in n me b a (ceasing (quiet l)) t words v u s
  unfolding server_after answers_after sends_in work_after copy_after cease
  ceasing_means =
      let s1 = placed n b l t words s in
      ap cease (seen_itself n b s l t words seen)
      ∙ ap₂ (λ z out. reaction z [] out) (sym (ceased_means n (beside_in s1) l.head seen.votes)) (ap endings (calls_kept n b s l t words seen))

-- a move that replies with a message of this kind and version, and with `keeps` may store the message's content
abbrev pub reply_with : ℕ → Version → Keeping → Local → Move
reply_with kind w keeps l = record { local = l; sends = kind; written = w; fills = filling.Stays; keeps = keeps; answer = no_answer; ceases = false; forgets = false }

-- a server that steps down, or not, once it replied; its calls are left as they were
pub stepped_down_means : (n me b : ℕ) (a : Asked) (s : cluster.Server) (t : Tables) (words : calls.Words) (v : List ℕ) (u : List Entry)
    (kind : ℕ) (w : Version) (keeps : Keeping) (l : Local)
    → length l.head.votes ≡ 7 → set s.volatile.calls b (call_in l.call words) ≡ s.volatile.calls
    → let m = reply_with kind w keeps l in
    let r = step_down (moved_server n b m t words s) in
    reaction r.server (sends_in n me b a m t) r.answers ≡ reaction_in n me b a (stepped_down m) t words v u s
unfolding server_after answers_after answers_in sends_in work_after copy_after cease step_down stepped_down
stepped_down_means n me b a s t words v u kind w keeps l seven same =
    let m = reply_with kind w keeps l in
    let s1 = moved_server n b m t words s in
    let ms = sends_in n me b a m t in
    let steps : Move = elim (ltb l.head.number l.head.vote) [ true ↦ ceasing m | false ↦ m ] in
    let ceases : Reaction = elim (ltb l.head.number l.head.vote) [ true ↦ cease s1 | false ↦ no_reaction s1 ] in
    elim (acts (role_in l.head.role)) as
    (λ y. let r : Reaction = elim y [ false ↦ no_reaction s1 | true ↦ ceases ] in
    reaction r.server ms r.answers ≡ reaction_in n me b a (elim y [ false ↦ m | true ↦ steps ]) t words v u s) [
      | false ↦ refl
      | true ↦
          elim (ltb l.head.number l.head.vote) as
          (λ z. let r : Reaction = elim z [ true ↦ cease s1 | false ↦ no_reaction s1 ] in
          reaction r.server ms r.answers ≡ reaction_in n me b a (elim z [ true ↦ ceasing m | false ↦ m ]) t words v u s) [
            | true ↦ ap₂ (λ z out. reaction z ms out) (sym (ceased_means n (beside_in s1) l.head seven)) (ap endings same)
            | false ↦ refl
          ]
    ]
