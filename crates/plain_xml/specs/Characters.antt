-- Which characters stand where (XML 1.0, 2.2 and 2.3).
use Rattle.std.specs.Prelude.{ℕ, Bool, ◌==◌, ◌||◌, ◌&&◌, nat_le}

-- white space
unfoldable pub is_space : ℕ → Bool
is_space c = c == 32 || (c == 9 || (c == 10 || c == 13))

-- the number of a character that XML can hold
unfoldable pub is_character : ℕ → Bool
is_character c =
    c == 9 || (c == 10 || (c == 13 || ((nat_le 32 c && nat_le c 0xD7FF) || ((nat_le 0xE000 c && nat_le c 0xFFFD)
    || (nat_le 0x1_0000 c && nat_le c 0x10_FFFF)))))

-- what a name begins with: the names of this subset are ASCII
unfoldable pub is_name_start : ℕ → Bool
is_name_start c = (nat_le 65 c && nat_le c 90) || ((nat_le 97 c && nat_le c 122) || (c == 95 || c == 58))

-- what stands in a name
unfoldable pub is_name_part : ℕ → Bool
is_name_part c = is_name_start c || ((nat_le 48 c && nat_le c 57) || (c == 45 || c == 46))
