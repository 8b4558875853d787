-- The classes of bytes (C11 5.2.1), in ASCII.

use Rattle.std.specs.Prelude.{ℕ, ◌≡◌, ◌≢◌, ◌≤◌, ◌⊎◌}

-- ---- Bytes with a name

-- The byte that ends a line.
abbrev pub line_feed : ℕ
line_feed = 10

abbrev pub double_quote : ℕ
double_quote = 34

abbrev pub number_sign : ℕ
number_sign = 35

abbrev pub percent_sign : ℕ
percent_sign = 37

abbrev pub single_quote : ℕ
single_quote = 39

abbrev pub asterisk : ℕ
asterisk = 42

abbrev pub full_stop : ℕ
full_stop = 46

abbrev pub slash : ℕ
slash = 47

abbrev pub colon : ℕ
colon = 58

abbrev pub backslash : ℕ
backslash = 92

-- ---- Classes

-- Space, or one of tab, line feed, vertical tab and form feed (6.4p3), or, ours, carriage return:
-- they are 9 to 13.
abbrev pub IsBlank : ℕ → Type 0
IsBlank byte = (byte ≡ 32) ⊎ ((9 ≤ byte) × (byte ≤ 13))

-- A blank that does not end the line.
abbrev pub IsLineBlank : ℕ → Type 0
IsLineBlank byte = IsBlank byte × (byte ≢ line_feed)

-- `a` to `z`, `A` to `Z`, or `_` (6.4.2.1).
abbrev pub IsLetter : ℕ → Type 0
IsLetter byte =
    ((97 ≤ byte) × (byte ≤ 122)) ⊎ ((65 ≤ byte) × (byte ≤ 90)) ⊎ (byte ≡ 95)

-- `0` to `9` (6.4.2.1).
abbrev pub IsDigit : ℕ → Type 0
IsDigit byte = (48 ≤ byte) × (byte ≤ 57)

-- What may stand in a word after its first byte (6.4.2.1).
abbrev pub IsWordByte : ℕ → Type 0
IsWordByte byte = IsLetter byte ⊎ IsDigit byte

-- `e`, `E`, `p` or `P`, after which a number may have a sign (6.4.8).
abbrev pub IsExponent : ℕ → Type 0
IsExponent byte = (byte ≡ 101) ⊎ (byte ≡ 69) ⊎ (byte ≡ 112) ⊎ (byte ≡ 80)

-- `+` or `-` (6.4.4.2).
abbrev pub IsSign : ℕ → Type 0
IsSign byte = (byte ≡ 43) ⊎ (byte ≡ 45)
