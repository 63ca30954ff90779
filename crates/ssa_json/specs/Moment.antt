-- The texts of moments: YYYY-MM-DDTHH:MM:SSZ, of the years 1970 to 9999, where the date and the time exist.
use Rattle.std.specs.Prelude.{ℕ, ◌+◌, ◌-◌, ◌*◌, ◌<◌, List, length, Bool, false, ◌&&◌, ◌==◌, nat_le, Option, Some, None, option_and_then, if◌then◌else◌, slice_index, pos}
use Rattle.jiff_core.specs.Calendar.{days_in_month}
use Rattle.ssa_json.specs.declared.moment.Parts.{Parts}

infixl 10 ◌>>=◌
abbrev pub ◌>>=◌ : {A B : Type 0} → Option A → (A → Option B) → Option B
o >>= f = option_and_then f o

unfoldable pub digit_of : ℕ → Option ℕ
digit_of b = if nat_le 48 b && nat_le b 57 then Some (b - 48) else None

-- the number that two digits write
unfoldable pub two_at : List ℕ → ℕ → Option ℕ
two_at t i = do
  a ← digit_of (slice_index t i)
  b ← digit_of (slice_index t (i + 1))
  Some (10 * a + b)

-- the numbers of a text of 20 bytes
unfoldable pub parts_of : List ℕ → Option Parts
parts_of t = do
  century ← two_at t 0
  years ← two_at t 2
  month ← two_at t 5
  day ← two_at t 8
  hour ← two_at t 11
  minute ← two_at t 14
  second ← two_at t 17
  Some (record { year = 100 * century + years; month = month; day = day; hour = hour; minute = minute; second = second })

-- what stands between the numbers: `-`, `-`, `T`, `:`, `:`, and `Z` at the end
abbrev pub has_marks : List ℕ → Bool
has_marks t = (slice_index t 4 == 45) && (slice_index t 7 == 45) && (slice_index t 10 == 84) && (slice_index t 13 == 58) && (slice_index t 16 == 58)
    && (slice_index t 19 == 90)

-- the date is in the calendar, from 1970 on, and the time is one of the day
abbrev pub is_date : Parts → Bool
is_date p = nat_le 1970 p.year && nat_le 1 p.month && nat_le p.month 12 && nat_le 1 p.day && nat_le p.day (days_in_month (pos p.year) p.month)

abbrev pub is_time : Parts → Bool
is_time p = nat_le p.hour 23 && nat_le p.minute 59 && nat_le p.second 59

abbrev pub exists : Option Parts → Bool
exists (Some p) = is_date p && is_time p
exists None = false

unfoldable pub is_moment : List ℕ → Bool
is_moment t = (length t == 20) && has_marks t && exists (parts_of t)

-- the numbers fit their digits
pub record IsSmall (p : Parts) : Type 0 where
  pub year : p.year < 10000
  pub month : p.month < 100
  pub day : p.day < 100
  pub hour : p.hour < 100
  pub minute : p.minute < 100
  pub second : p.second < 100
