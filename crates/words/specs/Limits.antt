-- The limits of programs, lemma lists and graphs, and the room that the lent lists have.
--
-- most_variables, most_rows, most_predicates, most_actions, most_forbidden — how many of them a program may have; the rows are those of
--                            the start or of a guard, and an action has no more assignments than that
-- least_constant, most_constant, least_coefficient, most_coefficient — from -1,000,000 to 1,000,000; from -1,000 to 1,000
-- most_multiplier         — how large a lemma's multipliers may be
-- START                   — the source that stands for the start
-- most_lemmas, most_nodes — how many lemmas a list may have; how many nodes a graph
-- header                  — how many words of a node's record come before its edges: its literals, its origin and its distance
-- graph_words, path_words — how many words the records of a graph have room in, and the steps of a path
-- most_findings           — how many findings a graph may have: at each node its combinations, and both ends of each variable that its actions set
use Rattle.std.specs.Prelude.{ℕ, ◌+◌, ◌*◌, ℤ, pos, negsuc}

abbrev pub most_variables : ℕ
most_variables = 8

abbrev pub most_rows : ℕ
most_rows = 8

abbrev pub most_predicates : ℕ
most_predicates = 14

abbrev pub most_actions : ℕ
most_actions = 16

abbrev pub most_forbidden : ℕ
most_forbidden = 8

abbrev pub least_constant : ℤ
least_constant = negsuc 999999

abbrev pub most_constant : ℤ
most_constant = pos 1000000

abbrev pub least_coefficient : ℤ
least_coefficient = negsuc 999

abbrev pub most_coefficient : ℤ
most_coefficient = pos 1000

abbrev pub most_multiplier : ℕ
most_multiplier = 65535

-- Source is an action, or 255 for the start.
abbrev pub START : ℕ
START = 255

abbrev pub most_lemmas : ℕ
most_lemmas = 512

abbrev pub most_nodes : ℕ
most_nodes = 512

abbrev pub header : ℕ
header = 3

abbrev pub graph_words : ℕ
graph_words = most_nodes * (header + most_actions)

abbrev pub path_words : ℕ
path_words = 512

abbrev pub most_findings : ℕ
most_findings = most_nodes * (most_forbidden + most_actions * (most_variables * 2))
