-- Refusals that bear on several kinds of lines (RULES, Refusals 3), by rising number, and how many messages a step sends.
use Rattle.std.specs.Prelude.{Bool, true, false, ℕ, ◌+◌, ◌-◌, eqb, leb, Result, Ok, Err}
use Rattle.model.specs.Measures.{max_messages, max_accepted}
use Rattle.server.specs.declared.Head.{Head}
use Rattle.server.specs.Views.{flag_in, chosen, is_broadcast}
use Rattle.memory.specs.declared.Counts.{Counts}
use Rattle.refusals.specs.declared.Refusal.{Refusal}
use Rattle.refusals.specs.declared.Refusal.TheVariants.{Malformed, ClusterWrong, NotThere, BadLength, LinesSpent, ServerStopped, NoSuchMessage, NotLeading, BucketOccupied, NoRoundOpen, LastElection, NoPlaces, BadCutOrStart}

-- the number that is printed
abbrev pub number : Refusal → ℕ
number Malformed = 1
number ClusterWrong = 2
number NotThere = 3
number BadLength = 4
number LinesSpent = 5
number ServerStopped = 6
number NoSuchMessage = 7
number NotLeading = 8
number BucketOccupied = 9
number NoRoundOpen = 10
number LastElection = 11
number NoPlaces = 12
number BadCutOrStart = 18

-- refused with r where a test holds
abbrev pub refused_where : Bool → Refusal → Result (Unit {0}) Refusal
refused_where x r = elim x [ true ↦ Err r | false ↦ Ok tt ]

-- there are such a server and such a bucket; 3 is given where this is false
unfoldable pub inside : Counts → ℕ → ℕ → Bool
inside c s b = elim (leb c.servers s) [ true ↦ false | false ↦ elim (leb c.buckets b) [ true ↦ false | false ↦ true ] ]

-- 5 and 6
unfoldable pub server_refusal : Counts → Head → Result (Unit {0}) Refusal
server_refusal c h = elim (leb max_accepted c.lines) [ true ↦ Err LinesSpent | false ↦ refused_where (flag_in h.stopped) ServerStopped ]

-- 5 and 18: 6 is not given for a start
unfoldable pub start_refusal : Counts → Head → Result (Unit {0}) Refusal
start_refusal c h = elim (leb max_accepted c.lines) [ true ↦ Err LinesSpent | false ↦ elim (flag_in h.stopped) [ true ↦ Ok tt | false ↦ Err BadCutOrStart ] ]

-- 5 and 7
unfoldable pub message_refusal : Counts → ℕ → Result (Unit {0}) Refusal
message_refusal c i = elim (leb max_accepted c.lines) [ true ↦ Err LinesSpent | false ↦ refused_where (leb c.messages i) NoSuchMessage ]

-- a receiver that is no server, or that is stopped: a message to it is lost, and cannot be cut
unfoldable pub no_receiver : Counts → ℕ → Head → Bool
no_receiver c receiver h = elim (leb c.servers receiver) [ true ↦ true | false ↦ flag_in h.stopped ]

-- how many messages a step sends, by their kind, among n servers
unfoldable pub send_count : ℕ → ℕ → ℕ
send_count n kind = elim (eqb kind 0) [ true ↦ 0 | false ↦ elim (is_broadcast kind) [ true ↦ n - 1 | false ↦ 1 ] ]

-- whether there is a place for each message, else 12; the place of a message that is removed is free
abbrev pub places_left : Counts → Bool → ℕ → Bool
places_left c removes kind = leb (c.messages - chosen removes 1 0 + send_count c.servers kind) max_messages

unfoldable pub places_refusal : Counts → Bool → ℕ → Result (Unit {0}) Refusal
places_refusal c removes kind = elim (places_left c removes kind) [ true ↦ Ok tt | false ↦ Err NoPlaces ]
