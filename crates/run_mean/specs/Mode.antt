-- How members run a stack.

-- layer by layer, or by its bypasses where they hold
pub data Mode : Type 0 where
  layered : Mode
  bypass : Mode
