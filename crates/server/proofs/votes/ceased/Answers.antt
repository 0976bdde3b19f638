use Rattle.std.proofs.Common.{◌≡◌, refl, length, arith}
use Rattle.server.proofs.HeadLaws.{ceased_means}
use Rattle.server.proofs.votes.ceased.Goals as goal

pub returns-clause-means : goal.returns-clause-means
returns-clause-means c = λ n x. let seven : length c.args.head.votes ≡ 7 = omega arith in ceased_means n x c.args.head seven
