-- `list_keys` meets its contract: the keys of the slots in use.
use Rattle.std.proofs.lemmas.Result.{err_from_is_err_and}
use Rattle.entries.specs.Decoded.{blank}
use Rattle.bucket_calls.proofs.Answering.{list_refused, list_done}
use borrow.Author.Rules.{rules}
use Rattle.bucket_calls.proofs.list_keys.Goals as goal

pub returns-in_err-table : goal.returns-in_err-table
returns-in_err-table c =
    let p = err_from_is_err_and c.from_residual.result c.from_residual.ensures.1 in
    rw p.1 (list_refused c.in_err-table.ensures)

pub returns : goal.returns
returns c =
    list_done c.in_ok-table.ensures _ c.count_of.ensures c.map.ensures.items.long
    (λ i h. let (p, q, w) = c.map.ensures.items.at i blank blank.key h in search rules)
