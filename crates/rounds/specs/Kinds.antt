-- How a server handles a message, by its kind number, and by the definitions' bodies.
use Rattle.std.specs.Prelude.{ℕ, true, false, ◌==◌}
use Rattle.model.specs.Cluster as cluster
use Rattle.server.specs.declared.Handling.{Handling}
use Rattle.server.specs.declared.Handling.TheVariants.{Vote, Request, Reply, Other}
use Rattle.server.specs.Views.{among}

unfoldable pub handling_in : ℕ → Handling
handling_in kind =
    elim (among 3 kind) [
      | true ↦ Vote kind
      | false ↦
          elim (kind == 4) [
            | true ↦ Request true
            | false ↦
                elim (kind == 5) [
                  | true ↦ Reply 1 false
                  | false ↦
                      elim (kind == 6) [
                        | true ↦ Reply 2 false
                        | false ↦
                            elim (kind == 7) [
                              | true ↦ Request false
                              | false ↦
                                  elim (kind == 8) [
                                    | true ↦ Reply 1 true
                                    | false ↦
                                        elim (kind == 9) [ true ↦ Reply 2 false | false ↦ Other ]
                                  ]
                            ]
                      ]
                ]
          ]
    ]

-- a vote by its number, a request by whether it writes, a reply by its mark and whether it reports a copy
unfoldable pub handling_of : cluster.Body → Handling
handling_of cluster.please_vote = Vote 1
handling_of cluster.ack_vote = Vote 2
handling_of cluster.nack_vote = Vote 3
handling_of (cluster.replica_write c) = Request true
handling_of cluster.ack_write = Reply 1 false
handling_of cluster.nack_write = Reply 2 false
handling_of cluster.replica_read = Request false
handling_of (cluster.ack_read c) = Reply 1 true
handling_of cluster.nack_read = Reply 2 false
