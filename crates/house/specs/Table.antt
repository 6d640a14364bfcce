-- The house grammar: a dated row, twelve rooms, each with temperature, humidity and carbon dioxide, any of which may be missing.
--
--     14.11.2026;06:15;17,4;91,5;1240;18,9;;650; .. ;-2,1;88;410
--
-- Fields are separated by a semicolon and decimals are written with a comma; where a value is missing its field is empty.
use Rattle.std.specs.Prelude.{List, [], ◌∷◌, ◌++◌, map, ℕ, ◌+◌, ◌*◌, length, replicate}
use Rattle.grammar.specs.Flat.{Flat, flat}

-- the tokens, each of which costs the characters that it takes at least; eof, token 7, costs nothing
abbrev pub digits : ℕ
digits = 0

abbrev pub decimal_comma : ℕ
decimal_comma = 1

abbrev pub semicolon : ℕ
semicolon = 2

abbrev pub minus : ℕ
minus = 3

abbrev pub dot : ℕ
dot = 4

abbrev pub colon : ℕ
colon = 5

abbrev pub newline : ℕ
newline = 6

unfoldable pub costs : List ℕ
costs = 1 ∷ 1 ∷ 1 ∷ 1 ∷ 1 ∷ 1 ∷ 1 ∷ 0 ∷ []

-- the rules: 0 start; those of room i, which is 0 to 11; and what rows and rooms are made of
abbrev pub row : ℕ
row = 1

abbrev pub room : ℕ → ℕ
room i = 2 + i

abbrev pub temperature : ℕ → ℕ
temperature i = 14 + 3 * i

abbrev pub humidity : ℕ → ℕ
humidity i = 15 + 3 * i

abbrev pub carbon : ℕ → ℕ
carbon i = 16 + 3 * i

abbrev pub stamp : ℕ
stamp = 50

abbrev pub date : ℕ
date = 51

abbrev pub time : ℕ
time = 52

abbrev pub degrees : ℕ
degrees = 53

abbrev pub percent : ℕ
percent = 54

abbrev pub parts : ℕ
parts = 55

abbrev pub sign : ℕ
sign = 56

abbrev pub fraction : ℕ
fraction = 57

-- a rule among the symbols
abbrev pub rule : ℕ → ℕ
rule r = 32768 + r

-- a production
pub record Production : Type 0 where
  pub owner : ℕ
  pub body : List ℕ

-- the owner is these symbols
abbrev pub is : ℕ → List ℕ → Production
is owner body = record { owner = owner; body = body }

-- the twelve rooms, from 0
abbrev pub twelve : List ℕ
twelve = 0 ∷ 1 ∷ 2 ∷ 3 ∷ 4 ∷ 5 ∷ 6 ∷ 7 ∷ 8 ∷ 9 ∷ 10 ∷ 11 ∷ []

-- a room: three fields
abbrev pub room_is : ℕ → Production
room_is i = is (room i) (semicolon ∷ rule (temperature i) ∷ semicolon ∷ rule (humidity i) ∷ semicolon ∷ rule (carbon i) ∷ [])

-- its values, any of which may be missing
abbrev pub values_are : ℕ → List Production
values_are i =
    is (temperature i) (rule degrees ∷ [])
    ∷ is (temperature i) []
    ∷ is (humidity i) (rule percent ∷ [])
    ∷ is (humidity i) []
    ∷ is (carbon i) (rule parts ∷ [])
    ∷ is (carbon i) []
    ∷ []

-- what they are made of: a date and a time, numbers with a sign and a fraction where they may have one
abbrev pub made_of : List Production
made_of =
    is stamp (rule date ∷ semicolon ∷ rule time ∷ [])
    ∷ is date (digits ∷ dot ∷ digits ∷ dot ∷ digits ∷ [])
    ∷ is time (digits ∷ colon ∷ digits ∷ [])
    ∷ is degrees (rule sign ∷ digits ∷ rule fraction ∷ [])
    ∷ is percent (digits ∷ rule fraction ∷ [])
    ∷ is parts (digits ∷ [])
    ∷ is sign (minus ∷ [])
    ∷ is sign []
    ∷ is fraction (decimal_comma ∷ digits ∷ [])
    ∷ is fraction []
    ∷ []

-- lists one behind the other
abbrev pub joined : {A : Type 0} → List (List A) → List A
joined [] = []
joined (a ∷ rest) = a ++ joined rest

-- all productions, in order
abbrev pub productions : List Production
productions =
    is 0 (rule row ∷ [])
    ∷ is row (rule stamp ∷ (map (λ i. rule (room i)) twelve ++ (newline ∷ [])))
    ∷ (map room_is twelve ++ (joined (map values_are twelve) ++ made_of))

-- where each begins, from n on, and the end
abbrev pub beginnings : ℕ → List Production → List ℕ
beginnings n [] = n ∷ []
beginnings n (p ∷ ps) = n ∷ beginnings (n + length p.body) ps

-- the table
unfoldable pub owners : List ℕ
owners = map (λ (p : Production). p.owner) productions

unfoldable pub starts : List ℕ
starts = beginnings 0 productions

unfoldable pub symbols : List ℕ
symbols = joined (map (λ (p : Production). p.body) productions)

abbrev pub house : Flat
house = flat 58 owners starts symbols costs

-- the cheapest row: a date, a time, and thirty-six empty fields
unfoldable pub cheapest_row : List ℕ
cheapest_row = digits ∷ dot ∷ digits ∷ dot ∷ digits ∷ semicolon ∷ digits ∷ colon ∷ digits ∷ (replicate 36 semicolon ++ (newline ∷ []))
