pub mod RoomForOne
