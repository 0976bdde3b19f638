-- `KeyList::used` meets its contract: there is room for four keys.
use borrow.Author.Rules.{rules}
use Rattle.print.proofs.Texts.{used_keys}
use Rattle.print.proofs.KeyList.used.Goals as goal

pub returns-clause-keys : goal.returns-clause-keys
returns-clause-keys c = used_keys c.args.self.now _ (search rules) c.min.ensures
