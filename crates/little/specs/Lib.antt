pub mod LittleEndian
