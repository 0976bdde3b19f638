-- Opens every definition at once, for the files that compute with them: `unfolding computing`.
use Rattle.hash.specs.Fnv.{bucket_of}
use Rattle.entries.specs.Entries.{order, value_of, holds, put, remove, stored}
use Rattle.table.specs.Form.{bucket_size, within, rising, sized, fits, header, body, packed, bucket_bytes, entries_of, table_of, same_bytes, same_value, read_bucket}
use Rattle.model.specs.Measures.{majority}
use Rattle.model.specs.Calls.{bucket_for, effect_writes, setting, effect}
use Rattle.model.specs.Cluster.{above, kind_number, fresh_server, fresh_cluster}
use Rattle.model.specs.Replica.{grants, after_vote, request_body, may_accept, storing, accepting, acknowledging, refusing}
use Rattle.model.specs.Stores.{put_store, put_stores, vote_stores, copy_stores, accept_stores, request_stores, please_vote_stores, stores_of, is_broadcast}
use Rattle.model.specs.Leader
use Rattle.model.specs.Lines
use Rattle.model.specs.Text.{bytes}
use Rattle.model.specs.Parse
use Rattle.model.specs.Print
use Rattle.model.specs.Run.{step_up_to, state_after_up_to, outcomes_up_to, last_line, lines_from, lines_of, printed_from, run}

unfoldable pub computing : Unit {0}
unfolding bucket_size within rising sized fits header body packed bucket_bytes entries_of table_of read_bucket bucket_of order value_of holds put remove stored same_bytes same_value majority bucket_for effect_writes setting effect above kind_number fresh_server fresh_cluster grants after_vote request_body may_accept storing accepting acknowledging refusing put_store put_stores vote_stores copy_stores accept_stores request_stores please_vote_stores stores_of is_broadcast Leader.below Leader.without Leader.broadcast Leader.ended Leader.endings Leader.ceased Leader.forgotten Leader.cease Leader.acts Leader.step_down Leader.votes_for Leader.standing Leader.stand_for_election Leader.next_number Leader.elect Leader.on_ack_vote Leader.acknowledgements Leader.refusals Leader.closes Leader.fails Leader.one_more Leader.is_own Leader.report_to Leader.new_round Leader.opening Leader.open_round Leader.answer_of Leader.finish Leader.next_version Leader.applying Leader.after_read Leader.checking Leader.recovering Leader.start_read Leader.straight Leader.start_call Leader.begin_call Leader.closed Leader.better Leader.marked_by Leader.counted Leader.counting Leader.on_reply Leader.on_please_vote Leader.on_request Leader.handle Lines.first_of Lines.either Lines.no_server Lines.no_bucket Lines.no_bucket_for Lines.bad_key Lines.bad_value Lines.bad_words Lines.limit_reached Lines.no_message Lines.is_leading Lines.present Lines.last_number Lines.bad_cut Lines.conditions_up_to Lines.delivery Lines.work Lines.accept_line Lines.in_cluster_up_to Lines.create_cluster Lines.perform_up_to bytes Parse.parse Print.decimal_into Print.decimal Print.hex_digit Print.hex_pairs Print.value_text Print.key_list Print.keys_text Print.word_of Print.data_of Print.answer_text Print.answer_texts Print.outcome_text Print.tally_text step_up_to state_after_up_to outcomes_up_to last_line lines_from lines_of printed_from run
computing = tt
