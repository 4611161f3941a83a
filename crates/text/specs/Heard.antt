-- What a program prints for the bytes that it was given, by the answer of the read after them.
--
-- heard next whole cut  == what is printed: `whole` where `next` is 0, else `cut`
-- Assumes nothing.
use Rattle.std.specs.Prelude.{List, ℕ, zero, suc, ℤ, pos, negsuc}

-- 0 says that the input ended there, or fills the memory lent; a positive answer that it goes on, a negative one that it can't be
-- read: the bytes given are then not a whole text.
unfoldable pub heard : ℤ → List ℕ → List ℕ → List ℕ
heard (pos zero) whole cut = whole
heard (pos (suc k)) whole cut = cut
heard (negsuc k) whole cut = cut
