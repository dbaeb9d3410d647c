-- The date word.
use Rattle.std.proofs.Common.{◌≡◌, ℕ, ◌+◌, ◌-◌, ◌*◌, ◌/◌, ◌%◌, ◌^◌, ◌<◌, ◌≤◌, ap, ◌∙◌, arith, add_comm}
use Rattle.std.proofs.Math.Nat.{mul_comm}
use Rattle.std.proofs.lemmas.Nat.{div-mul-add, mod-mul-add}
use Rattle.qic_base.specs.Field.{date_word}
use Rattle.qic_base.specs.DateLaws.{WrittenDateIsReadBack}

-- a number in the places above another, and the one below
above : (low n high : ℕ) → low < n → (low + n * high) / n ≡ high
above low n high h = ap (λ x. x / n) (add_comm low (n * high) ∙ ap (λ x. x + low) (mul_comm n high)) ∙ div-mul-add high n low h

below : (low n high : ℕ) → low < n → (low + n * high) % n ≡ low
below low n high h = ap (λ x. x % n) (add_comm low (n * high) ∙ ap (λ x. x + low) (mul_comm n high)) ∙ mod-mul-add high n low h

pub written_date_is_read_back : WrittenDateIsReadBack
written_date_is_read_back year month day hour minute second d =
    let days : ℕ = day - 1 + 31 * (month - 1) in
    let hours : ℕ = hour + 24 * days in
    let minutes : ℕ = minute + 60 * hours in
    let seconds : ℕ = second + 60 * minutes in
    let bounds = d in
    let short : seconds ≤ 0x01EA6DFF = omega arith in
    let low : date_word year month day hour minute second % 2 ^ 25 ≡ seconds = mod-mul-add (year - 1970) (2 ^ 25) seconds (omega arith) in
    let high : date_word year month day hour minute second / 2 ^ 25 ≡ year - 1970 = div-mul-add (year - 1970) (2 ^ 25) seconds
    (omega arith) in
    let m : seconds / 60 ≡ minutes = above second 60 minutes (omega arith) in
    let h : minutes / 60 ≡ hours = above minute 60 hours (omega arith) in
    let ds : hours / 24 ≡ days = above hour 24 days (omega arith) in
    let mo : days / 31 ≡ month - 1 = above (day - 1) 31 (month - 1) (omega arith) in
    let da : days % 31 ≡ day - 1 = below (day - 1) 31 (month - 1) (omega arith) in
    let ho : hours % 24 ≡ hour = below hour 24 days (omega arith) in
    let mi : minutes % 60 ≡ minute = below minute 60 hours (omega arith) in
    let se : seconds % 60 ≡ second = below second 60 minutes (omega arith) in
    record {
      a_date = rw low short;
      same_year = rw high (omega arith);
      same_month = rw (low, m, h, ds, mo) (omega arith);
      same_day = rw (low, m, h, ds, da) (omega arith);
      same_hour = rw (low, m, h) ho;
      same_minute = rw (low, m) mi;
      same_second = rw low se;
    }
