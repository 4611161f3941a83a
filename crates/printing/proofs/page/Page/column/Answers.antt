-- `printing::page::Page::column` meets its contract. Assumes nothing.
use Rattle.std.proofs.Common.{refl}
use borrow.Author.Rules.{rules}
use Rattle.printing.proofs.Columns.{column_puts}
use Rattle.printing.proofs.page.Page.column.Goals as goal

pub returns : goal.returns
returns c = column_puts c.args.self.now c.spaces.new.self _ c.args.width c.args.x c.requires.0 c.requires.1 c.spaces.ensures refl (search rules) c.put_digits.ensures
