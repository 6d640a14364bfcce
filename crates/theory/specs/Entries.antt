-- What a table's numbers mean: the costs, lengths and counts themselves, and the numbers above them.
use Rattle.std.specs.Prelude.{ℕ}

-- COST: 0..65535, 65536 dear, 65537 none known
abbrev pub cost_max : ℕ
cost_max = 65535

abbrev pub cost_dear : ℕ
cost_dear = 65536

abbrev pub cost_unknown : ℕ
cost_unknown = 65537

-- lengths: the token count of the rule's sentence, 65536 if longer than 65535, 65537 if it is ungrounded or has no cost
abbrev pub length_max : ℕ
length_max = 65535

abbrev pub length_long : ℕ
length_long = 65536

abbrev pub length_none : ℕ
length_none = 65537

-- counts: 65536 for more than 65535, 65537 where the rule is circular or has no cost
abbrev pub count_max : ℕ
count_max = 65535

abbrev pub count_many : ℕ
count_many = 65536

abbrev pub count_none : ℕ
count_none = 65537

-- dearest: 0..65534, 65535 for costs without bound, 65536 for no sentence, 65537 for a greatest cost above 65534
abbrev pub dearest_max : ℕ
dearest_max = 65534

abbrev pub dearest_unbounded : ℕ
dearest_unbounded = 65535

abbrev pub dearest_none : ℕ
dearest_none = 65536

abbrev pub dearest_above : ℕ
dearest_above = 65537
