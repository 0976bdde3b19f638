-- The measures of a cluster (RULES, Measures), each named once.
use Rattle.std.specs.Prelude.{ℕ, ◌+◌, ◌/◌}
use Rattle.table.specs.Form.{max_key}

abbrev pub max_servers : ℕ
max_servers = 7

abbrev pub max_buckets : ℕ
max_buckets = 8

-- answers that a line can give: where leading ends, one for each bucket
abbrev pub most_answers : ℕ
most_answers = max_buckets

-- keys in a bucket
abbrev pub max_entries : ℕ
max_entries = 4

-- bytes of a key, which has at least one
abbrev pub max_key_bytes : ℕ
max_key_bytes = max_key

-- bytes of a value, which may have none
abbrev pub max_value_bytes : ℕ
max_value_bytes = 16

-- messages in flight
abbrev pub max_messages : ℕ
max_messages = 64

-- accepted lines after the cluster line
abbrev pub max_accepted : ℕ
max_accepted = 1000000

-- lines of the input that are read
abbrev pub max_lines : ℕ
max_lines = 4294967295

-- bytes of a line before its line feed
abbrev pub max_line_bytes : ℕ
max_line_bytes = 120

-- election numbers; 0 means none yet
abbrev pub max_election : ℕ
max_election = 65535

-- a majority of n servers: half of them, rounded down, plus one
unfoldable pub majority : ℕ → ℕ
majority n = n / 2 + 1
