use Rattle.std.proofs.Common.{◌≡◌, ℕ, List, ◌-◌, ◌*◌, ◌/◌, length, set, arith, length-set}
use Rattle.header_segments.proofs.SpellingLaws.{set-overwritten}
use Rattle.header_segments.proofs.writing.write_profile.Goals as goal

pub returns : goal.returns
returns c =
    let head : ℕ = (28 * c.args.segments_per_track - 1) / 600 in
    let first : List ℕ = c.write_u32.new.bytes in
    let last : List ℕ = c.write_u16-5.new.bytes in
    let long : length c.write_u32.new.bytes ≡ 1024 = omega (arith, c.write_u32.auto.bytes, c.told-sector) in
    let last_long : length c.write_u16-5.new.bytes ≡ 1024 =
    omega (
      arith,
      c.write_u16-5.auto.bytes,
      c.write_u16-4.auto.bytes,
      c.write_u16-3.auto.bytes,
      c.write_u16-2.auto.bytes,
      c.write_u16.auto.bytes,
      length-set {A = ℕ},
    ) in
    let a = set-overwritten first 4 2 (omega arith) (omega arith) in
    let b = set-overwritten (set first 4 2) 5 0 (omega (arith, length-set first 4 2)) (omega arith) in
    let d = set-overwritten last 26 28 (omega arith) (omega arith) in
    let e = set-overwritten (set last 26 28) 27 head (omega (arith, length-set last 26 28)) (omega (arith, c.requires.longest)) in
    let f = set-overwritten (set (set last 26 28) 27 head) 28 149
    (omega (arith, length-set last 26 28, length-set (set last 26 28) 27 head)) (omega arith) in
    let g = set-overwritten (set (set (set last 26 28) 27 head) 28 149) 29 128
    (omega (arith, length-set last 26 28, length-set (set last 26 28) 27 head, length-set (set (set last 26 28) 27 head) 28 149))
    (omega arith) in
    cc (
      c.write_u32.ensures.whole,
      c.write_u16.ensures.whole,
      c.write_u16-2.ensures.whole,
      c.write_u16-3.ensures.whole,
      c.write_u16-4.ensures.whole,
      c.write_u16-5.ensures.whole,
    )
