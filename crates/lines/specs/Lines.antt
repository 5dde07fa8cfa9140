-- The lines that the bench program prints: how a call ended, and a word of the memory.
use Rattle.std.specs.Prelude.{ℕ, List, [], ◌∷◌}
use Rattle.semantics.specs.Run.{Answer, refusal, ending, done, abort, out_of_memory, stuck}
use Rattle.semantics.specs.Bare as Bare
use Rattle.stream.specs.Items.{Item, word, number}

-- Byte 32 is a space, byte 10 a line end.
abbrev pub space : Item
space = word (32 ∷ [])

abbrev pub line_end : Item
line_end = word (10 ∷ [])

-- "its first line begins with one of the words done, abort, noroom or refused": the bytes of each word and a space.
abbrev pub done_word : Item
done_word = word (100 ∷ 111 ∷ 110 ∷ 101 ∷ 32 ∷ [])

abbrev pub abort_word : Item
abort_word = word (97 ∷ 98 ∷ 111 ∷ 114 ∷ 116 ∷ 32 ∷ [])

abbrev pub noroom_word : Item
noroom_word = word (110 ∷ 111 ∷ 114 ∷ 111 ∷ 111 ∷ 109 ∷ 32 ∷ [])

abbrev pub refused_word : Item
refused_word = word (114 ∷ 101 ∷ 102 ∷ 117 ∷ 115 ∷ 101 ∷ 100 ∷ 32 ∷ [])

-- "`done U`, `abort command U`, `noroom command U`, `refused number place`", without the line's end.
unfoldable pub ending_line : Answer → List Item
ending_line (refusal n place) = refused_word ∷ number n ∷ space ∷ number place ∷ []
ending_line (ending done u) = done_word ∷ number u ∷ []
ending_line (ending (abort command) u) = abort_word ∷ number command ∷ space ∷ number u ∷ []
ending_line (ending (out_of_memory command) u) = noroom_word ∷ number command ∷ space ∷ number u ∷ []
-- No run ends so (`SpatiallySafe`), and no answer says it.
ending_line (ending (stuck command) u) = []

abbrev pub stuck_word : Item
stuck_word = word (115 ∷ 116 ∷ 117 ∷ 99 ∷ 107 ∷ 32 ∷ [])

-- The same of a bare call, which may be `stuck command U`.
unfoldable pub bare_ending_line : Bare.Answer → List Item
bare_ending_line (Bare.refusal n place) = ending_line (refusal n place)
bare_ending_line (Bare.ending Bare.done u) = ending_line (ending done u)
bare_ending_line (Bare.ending (Bare.out_of_memory command) u) = ending_line (ending (out_of_memory command) u)
bare_ending_line (Bare.ending (Bare.stuck command) u) = stuck_word ∷ number command ∷ space ∷ number u ∷ []

-- "After a run one line follows for each word from 1 to U − 1": the U of these words, so that none follows a refusal.
unfoldable pub unused : Answer → ℕ
unused (refusal n place) = 0
unused (ending e u) = u

-- "address, value, base, end", with the line's end.
unfoldable pub word_line : (address value base end : ℕ) → List Item
word_line address value base end = number address ∷ space ∷ number value ∷ space ∷ number base ∷ space ∷ number end ∷ line_end ∷ []
