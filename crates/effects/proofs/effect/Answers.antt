-- `effect` meets its contract: what is none of the first four kinds is `keys`.
use Rattle.std.proofs.Common.{◌≡◌, ◌≢◌, sym, ap, ◌∙◌, ne_eqb, arith}
use Rattle.entries.specs.Decoded.{table_in}
use Rattle.model.specs.Calls as calls
use Rattle.model.specs.Calls.{effect}
use Rattle.server.specs.Views.{words_of_kind, words_by, words_in}
use Rattle.effects.proofs.effect.Goals as goal

pub returns-in_default : goal.returns-in_default
unfolding words_by
returns-in_default c =
    let get : c.args.words.kind ≢ 1 = omega arith in
    let set : c.args.words.kind ≢ 2 = omega arith in
    let setif : c.args.words.kind ≢ 3 = omega arith in
    let del : c.args.words.kind ≢ 4 = omega arith in
    let e : words_in c.args.words ≡ calls.keys c.args.words.bucket = rw (words_of_kind, ne_eqb _ _ get, ne_eqb _ _ set, ne_eqb _ _ setif, ne_eqb _ _ del) in
    c.listing.ensures c.args.words.bucket ∙ ap (λ x. effect x (table_in c.args.table)) (sym e)
