-- Worked maps, by evaluation.
use Rattle.std.proofs.Common.{◌≡◌, ℕ, [], ◌∷◌, codes, refl}
use Rattle.rescue_map.specs.declared.form.Block.{Block}
use Rattle.rescue_map.specs.Map.{Blocks, Fault, reading_of}
use Rattle.rescue_map.specs.Text.{head_text, hex_text, map_text, runs_of}

abbrev block : ℕ → ℕ → ℕ → Block
block start size mark = record { start = start; size = size; mark = mark }

meeting : reading_of (codes "0 ?\n0 0x600 +\n0x600 0x200 +\n0x800 02000 -\n")
    ≡ Blocks (block 0 1536 43 ∷ block 1536 512 43 ∷ block 2048 1024 45 ∷ [])
meeting = refl

gap : reading_of (codes "0x0 +\n0 1024 +\n2048 5 +\n") ≡ Fault 3
gap = refl

overlap : reading_of (codes "0x0 +\n0 1024 +\n1023 5 +\n") ≡ Fault 3
overlap = refl

empty : reading_of [] ≡ Fault 1
empty = refl

comments_only : reading_of (codes "# a\n  \n\t# b") ≡ Fault 4
comments_only = refl

returns : reading_of (codes "0 ? 1\r\n# x\r\n\r\n0 010 +\r\n") ≡ Blocks (block 0 8 43 ∷ [])
returns = refl

return_at_end : reading_of (codes "0 ?\r") ≡ Fault 1
return_at_end = refl

two_returns : reading_of (codes "0 ?\r\r\n") ≡ Fault 1
two_returns = refl

hash_in_word : reading_of (codes "0 ?# x\n") ≡ Fault 1
hash_in_word = refl

hash_behind_tab : reading_of (codes "0 ?\t# x\n7 9 * #\n") ≡ Blocks (block 7 9 42 ∷ [])
hash_behind_tab = refl

fourth_word : reading_of (codes "0 ? 1 1\n") ≡ Fault 1
fourth_word = refl

pass_zero : reading_of (codes "0 ? 0\n") ≡ Fault 1
pass_zero = refl

size_zero : reading_of (codes "0 ?\n0 0 +\n") ≡ Fault 2
size_zero = refl

greatest : reading_of (codes "0x7FFFFFFFFFFFFFFF ?\n0x7FFFFFFFFFFFFFFE 1 /\n") ≡ Blocks (block 9223372036854775806 1 47 ∷ [])
greatest = refl

too_great : reading_of (codes "9223372036854775808 ?\n") ≡ Fault 1
too_great = refl

sum_too_great : reading_of (codes "0 ?\n0x7FFFFFFFFFFFFFFF 1 /\n") ≡ Fault 2
sum_too_great = refl

copying_block : reading_of (codes "0 F\n0 1 F\n") ≡ Fault 2
copying_block = refl

eight : reading_of (codes "08 ?\n") ≡ Fault 1
eight = refl

bare : reading_of (codes "0x ?\n") ≡ Fault 1
bare = refl

long_word : reading_of (codes "0000000000000000000000000000001 ?\n0 00000000000000000000000000000001 +") ≡ Fault 2
long_word = refl

head : head_text ≡ codes
    "# Mapfile. Created by tape_export\n# current_pos  current_status  current_pass\n0x00000000     +               1\n#      pos        size  status\n"
unfolding head_text
head = refl

session : runs_of (4294967295 ∷ 4294967295 ∷ 4294967295 ∷ 4294967288 ∷ []) ≡ block 0 98304 43 ∷ block 98304 3072 45 ∷ block 101376 29696
    43 ∷ []
session = refl

text_of : hex_text 2650112 ≡ codes "0x00287000"
unfolding hex_text
text_of = refl

whole : map_text
    (0 ∷ []) ≡ codes
    "# Mapfile. Created by tape_export\n# current_pos  current_status  current_pass\n0x00000000     +               1\n#      pos        size  status\n0x00000000  0x00008000  -\n"
unfolding hex_text head_text
whole = refl
