-- `printing::page::Page::number` meets its contract. Assumes nothing.
use Rattle.std.proofs.Common.{refl}
use borrow.Author.Rules.{rules}
use Rattle.printing.proofs.Writes.{number_puts}
use Rattle.printing.proofs.page.Page.number.Goals as goal

pub returns : goal.returns
returns c =
    number_puts c.args.self.now _ c.byte.new.self c.args.x c.digits_in.result c.args.end c.requires.0 c.requires.1 c.digits_in.ensures.0 refl
    refl (search rules) c.put_digits.ensures c.byte.ensures
