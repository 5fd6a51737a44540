-- The definitions that the scanner's contracts cite. What a reader must believe: Position, Token. For inner contracts: Position/Cursor, Token/Scan.
pub mod Position
pub mod Token
