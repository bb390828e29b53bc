-- Text that is put at a place of a buffer, and the texts of numbers.
-- Assumes nothing.
use Rattle.std.specs.Prelude.{ℕ, zero, suc, ◌+◌, ◌/◌, ◌%◌, ◌≡◌, cond, List, [], ◌∷◌, ◌++◌, ltb, ℤ, pos, negsuc}
use Rattle.std.specs.Prelude.{length, take, drop}

-- the buffer with a text at a place, the rest as it was
abbrev pub placed : List ℕ → ℕ → List ℕ → List ℕ
placed out at text = take at out ++ text ++ drop (at + length text) out

-- a text was printed at a place: what the buffer holds, and where the text ends
pub record Printed (out : List ℕ) (at : ℕ) (text : List ℕ) (after : List ℕ) (stop : ℕ) : Type 0 where
  pub bytes : after ≡ placed out at text
  pub ends : stop ≡ at + length text

-- the ASCII code of a digit below 16
unfoldable pub glyph : ℕ → ℕ
glyph d = cond (ltb d 10) (48 + d) (87 + d)

-- a number below 10 ^ k in decimal, with no zeros in front
abbrev pub decimal : ℕ → ℕ → List ℕ
decimal zero n = []
decimal (suc k) n = cond (ltb n 10) ((48 + n) ∷ []) (decimal k (n / 10) ++ ((48 + n % 10) ∷ []))

-- a 64-bit number in decimal
unfoldable pub decimal_text : ℕ → List ℕ
decimal_text n = decimal 20 n

-- a signed 64-bit number in decimal
unfoldable pub signed_text : ℤ → List ℕ
signed_text (pos n) = decimal_text n
signed_text (negsuc n) = 45 ∷ decimal_text (suc n)

-- the last k hex digits of a number, lower case
abbrev pub hex : ℕ → ℕ → List ℕ
hex zero n = []
hex (suc k) n = hex k (n / 16) ++ (glyph (n % 16) ∷ [])

-- the 16 hex digits of a 64-bit number
unfoldable pub hex_text : ℕ → List ℕ
hex_text n = hex 16 n

-- the space between two fields
abbrev pub space_text : List ℕ
space_text = 32 ∷ []

-- the end of a line
abbrev pub newline_text : List ℕ
newline_text = 10 ∷ []

-- the fixed words: none
abbrev pub none_text : List ℕ
none_text = 110 ∷ 111 ∷ 110 ∷ 101 ∷ []

-- refused
abbrev pub refused_text : List ℕ
refused_text = 114 ∷ 101 ∷ 102 ∷ 117 ∷ 115 ∷ 101 ∷ 100 ∷ []

-- end
abbrev pub end_text : List ℕ
end_text = 101 ∷ 110 ∷ 100 ∷ []

-- engine
abbrev pub engine_text : List ℕ
engine_text = 101 ∷ 110 ∷ 103 ∷ 105 ∷ 110 ∷ 101 ∷ []

-- cost
abbrev pub cost_text : List ℕ
cost_text = 99 ∷ 111 ∷ 115 ∷ 116 ∷ []

-- path
abbrev pub path_text : List ℕ
path_text = 112 ∷ 97 ∷ 116 ∷ 104 ∷ []

-- row
abbrev pub row_text : List ℕ
row_text = 114 ∷ 111 ∷ 119 ∷ []

-- bad map at
abbrev pub bad_map_text : List ℕ
bad_map_text = 98 ∷ 97 ∷ 100 ∷ 32 ∷ 109 ∷ 97 ∷ 112 ∷ 32 ∷ 97 ∷ 116 ∷ []
