-- By the instruction: six drive nothing, RDSR shows the status, READ the cells, 83h the identification page or its lock.
use mathlib.Core.Logic.{inl, inr}
use Rattle.laws.specs.Table.{table_replicate}
use Rattle.shown.proofs.output.show_bytes.Goals as goal

pub returns-in-Wren : goal.returns-in-Wren
returns-in-Wren c = elim c.in-Wren.is [
  | inl e ↦ rw (c.fill.ensures, e) (table_replicate _ 255)
  | inr e ↦ elim e [
    | inl e ↦ rw (c.fill.ensures, e) (table_replicate _ 255)
    | inr e ↦ elim e [
      | inl e ↦ rw (c.fill.ensures, e) (table_replicate _ 255)
      | inr e ↦ elim e [
        | inl e ↦ rw (c.fill.ensures, e) (table_replicate _ 255)
        | inr e ↦ elim e [
          | inl e ↦ rw (c.fill.ensures, e) (table_replicate _ 255)
          | inr e ↦ rw (c.fill.ensures, e) (table_replicate _ 255)
        ]
      ]
    ]
  ]
]
