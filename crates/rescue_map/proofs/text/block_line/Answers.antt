use Rattle.std.proofs.Common.{◌≡◌, refl}
use Rattle.rescue_map.specs.Text.{hex_digits, hex_text}
use Rattle.rescue_map.proofs.text.block_line.Goals as goal

pub returns : goal.returns
unfolding hex_text
returns c =
    let start : c.put_hex.new.digits ≡ hex_digits 8 c.args.block.start = c.put_hex.ensures in
    let size : c.put_hex-2.new.digits ≡ hex_digits 8 c.args.block.size = rw start at c.put_hex-2.ensures in
    rw (start, size) refl
