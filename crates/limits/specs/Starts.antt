-- What a server has that comes back (RULES, Restarts 4): what is stored, and beside it what a fresh server has.
use Rattle.std.specs.Prelude.{false, length}
use Rattle.model.specs.Cluster.{Cluster, Server, fresh_server}

-- what is stored, with the rest of a fresh server of the cluster
abbrev pub fresh_but : Cluster → Server → Server
fresh_but c s = record { stored = s.stored; volatile = (fresh_server (length c.servers) c.buckets).volatile; stopped = false }
